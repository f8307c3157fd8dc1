-- Messages and their bytes: that every message is read back from its bytes, whatever follows them; what the test `readable`
-- says; that readable bytes are the ones that their message is written as.
use Prim.Native.Nat.{ℕ, zero, suc, ◌+◌, ◌*◌, ◌/◌, ◌%◌, ◌≤◌, ◌<◌}
use native.Mathlib.Omega.{arith}
use mathlib.Core.Bool.{true}
use mathlib.Core.List.{List, [], ◌∷◌, ◌++◌, map, append_assoc, append-nil}
use mathlib.Core.Logic.{⊎_elim}
use mathlib.Core.Path.{◌≡◌, refl, sym, ap, ◌∙◌}
use lib.ListN.{length, take, drop, length-append, length-drop, length-map, take-append-drop, get_or-append}
use lib.ListN.{get_or-eq_default}
use lib.Seq.{take_all, drop-drop, drop_at}
use borrow.Author.Tests.{eqb-true, eq-eqb}
use Rattle.ground.specs.Limits.{unit_limit, entry_base}
use Rattle.ground.specs.Rows.{at, tab, joined}
use Rattle.ground.proofs.Rows.{length_tab, tab_ext, tab_row}
use Rattle.ground.proofs.Tests.{both_of, less_or_not}
use Rattle.ground.proofs.Lists.{parts, map_tab, map_at, Wide, map_length, map_first, joined_parts, tab_take, tab_part}
use Rattle.ground.proofs.Lists.{at_from, Under, under_append}
use Rattle.rules.specs.Message.{Message, edition, change, changed_unit, legal_message}
use Rattle.rules.specs.Message.{body_bytes, written, written_length, change_at, message_of, readable}
use Rattle.rules.proofs.LegalMessages.{Legal}

-- The three bytes of one body.
body : ℕ → List ℕ
body c = c / entry_base % 256 ∷ c / 256 % 256 ∷ c % 256 ∷ []

-- The bodies are laid one after the other.
bodies : (cs : List ℕ) → body_bytes cs ≡ joined (map body cs)
unfolding body_bytes body
bodies [] = refl
bodies (c ∷ cs) = ap (λ bs. body c ++ bs) (bodies cs)

-- Each has 3 bytes.
three : (cs : List ℕ) → Wide 3 body cs 0
unfolding body
three cs i l = refl

-- The bodies have 3 bytes for each change.
pub length_bodies : (cs : List ℕ) → length (body_bytes cs) ≡ 3 * length cs
length_bodies cs = omega (arith, ap length (bodies cs), map_length 3 body cs 0 (three cs))

-- "Length is exactly 4 plus 4 for each entry."
pub written-length : (m : Message) → length (written m) ≡ written_length (length m.changes)
unfolding written
written-length m =
    omega (
      arith,
      length-append (map changed_unit m.changes) (body_bytes m.changes),
      length-map m.changes changed_unit,
      length_bodies m.changes,
    )

-- After the first four bytes there are the units, and then the bodies.
after_head : (m : Message) (rest : List ℕ)
    → drop 4 (written m ++ rest) ≡ map changed_unit m.changes ++ (body_bytes m.changes ++ rest)
unfolding written
after_head m rest = append_assoc (map changed_unit m.changes) (body_bytes m.changes) rest

-- After the units there are the bodies.
after_units : (m : Message) (rest : List ℕ)
    → drop (4 + length m.changes) (written m ++ rest) ≡ body_bytes m.changes ++ rest
after_units m rest =
    sym (drop-drop (length m.changes) 4 (written m ++ rest))
    ∙ rw after_head
    (drop_at (map changed_unit m.changes) (body_bytes m.changes ++ rest) (length m.changes) (length-map m.changes changed_unit))

-- From the body of change i on there are its three bytes, and then more.
from_body : (m : Message) (rest : List ℕ) (i : ℕ) → i < length m.changes
    → (more : List ℕ) × (drop (4 + length m.changes + 3 * i) (written m ++ rest) ≡ body (at m.changes i) ++ more)
from_body m rest i l =
    let e : 3 * i ≡ i * 3 = omega arith in
    rw (← drop-drop, after_units, e, bodies m.changes) (map_first 3 body m.changes 0 (three m.changes) rest i l)

-- The unit of change i is read back.
unit_back : (m : Message) (rest : List ℕ) (i : ℕ) → i < length m.changes
    → at (written m ++ rest) (4 + i) ≡ changed_unit (at m.changes i)
unit_back m rest i l =
    let h : i < length (map changed_unit m.changes) = rw (length-map m.changes changed_unit) l in
    at_from 4 (written m ++ rest) _ (after_head m rest) i (4 + i) refl
    ∙ get_or-append (map changed_unit m.changes) (body_bytes m.changes ++ rest) 0 i h
    ∙ map_at changed_unit m.changes i 0 0 l

-- Change i is read back.
change_back : (m : Message) (rest : List ℕ) (i : ℕ) → i < length m.changes
    → change_at (written m ++ rest) (length m.changes) i ≡ at m.changes i
unfolding change_at body
change_back m rest i l =
    let bytes = written m ++ rest in
    let e = length m.changes in
    let unit : at bytes (4 + i) ≡ changed_unit (at m.changes i) = unit_back m rest i l in
    let read = at_from (4 + e + 3 * i) bytes _ (from_body m rest i l).1 in
    let high : at bytes (4 + e + 3 * i) ≡ at m.changes i / entry_base % 256 = read 0 _ (omega arith) in
    let mid : at bytes (5 + e + 3 * i) ≡ at m.changes i / 256 % 256 = read 1 _ (omega arith) in
    let low : at bytes (6 + e + 3 * i) ≡ at m.changes i % 256 = read 2 _ (omega arith) in
    omega arith

-- A message is read back from its bytes, whatever follows them.
pub reads_back_from : (m : Message) (rest : List ℕ) → message_of (written m ++ rest) ≡ m
unfolding message_of written
reads_back_from m rest =
    let n = length m.changes in
    let same : tab n (change_at (written m ++ rest) n) ≡ m.changes =
    tab_ext n (change_at (written m ++ rest) n) (at m.changes) (change_back m rest) ∙ tab_row n m.changes 0 refl in
    λ i. record { kind = m.kind; sender = m.sender; changes = same i }

-- A message is read back from its bytes.
pub reads_back : (m : Message) → message_of (written m) ≡ m
reads_back m = rw append-nil at (reads_back_from m [])

-- What readable bytes are: they begin with the edition, are as many as their entries ask, and hold a legal message.
pub record Readable (n : ℕ) (bytes : List ℕ) : Type 0 where
  pub start : at bytes 0 ≡ edition
  pub long : length bytes ≡ written_length (at bytes 3)
  pub legal : legal_message n (message_of bytes) ≡ true

-- Bytes that pass the test are readable.
pub readable_of : (n : ℕ) (bytes : List ℕ) → readable n bytes ≡ true → Readable n bytes
unfolding readable
readable_of n bytes e =
    record {
      start = eqb-true (at bytes 0) edition (search parts);
      long = eqb-true (length bytes) (written_length (at bytes 3)) (search parts);
      legal = search parts;
    }

-- Readable bytes pass the test.
pub of_readable : (n : ℕ) (bytes : List ℕ) → Readable n bytes → readable n bytes ≡ true
unfolding readable
of_readable n bytes r = search (both_of, eq-eqb, r.start, r.long, r.legal)

-- The bytes of a legal message are readable.
pub written_readable : (n : ℕ) (m : Message) → legal_message n m ≡ true → readable n (written m) ≡ true
unfolding written
written_readable n m e =
    of_readable n (written m) (record { start = refl; long = written-length m; legal = rw reads_back e })

-- The bodies are bytes.
body-bytes : (cs : List ℕ) → Under 256 (body_bytes cs)
unfolding body_bytes
body-bytes [] i = omega arith
body-bytes (c ∷ cs) zero = omega arith
body-bytes (c ∷ cs) (suc zero) = omega arith
body-bytes (c ∷ cs) (suc (suc zero)) = omega arith
body-bytes (c ∷ cs) (suc (suc (suc i))) = body-bytes cs i

-- The units of a legal message are bytes.
unit_bytes : (n : ℕ) (m : Message) → Legal n m → n ≤ unit_limit → Under 256 (map changed_unit m.changes)
unit_bytes n m legal h i =
    ⊎_elim
    (λ l. omega (arith, map_at changed_unit m.changes i 0 0 l, (legal.each i l).unit))
    (λ l. omega (arith, get_or-eq_default (map changed_unit m.changes) 0 {n = i} (rw (length-map m.changes changed_unit) l)))
    (less_or_not i (length m.changes))

-- Every number that a legal message is written as is a byte.
pub written_bytes : (n : ℕ) (m : Message) → Legal n m → n ≤ unit_limit → Under 256 (written m)
unfolding written
written_bytes n m legal h zero = omega arith
written_bytes n m legal h (suc zero) = omega arith
written_bytes n m legal h (suc (suc zero)) = omega arith
written_bytes n m legal h (suc (suc (suc zero))) = omega arith
written_bytes n m legal h (suc (suc (suc (suc i)))) =
    under_append 256 (map changed_unit m.changes) (body_bytes m.changes) (unit_bytes n m legal h) (body-bytes m.changes) i

-- The three bytes of a change are those that it is made of.
digits : (u a b c : ℕ) → a < 256 → b < 256 → c < 256 → body (change u (a * entry_base + b * 256 + c)) ≡ a ∷ b ∷ c ∷ []
unfolding body
digits u a b c p q r =
    let high : change u (a * entry_base + b * 256 + c) / entry_base % 256 ≡ a = omega arith in
    let mid : change u (a * entry_base + b * 256 + c) / 256 % 256 ≡ b = omega arith in
    let low : change u (a * entry_base + b * 256 + c) % 256 ≡ c = omega arith in
    λ i. high i ∷ mid i ∷ low i ∷ []

module _ (bytes : List ℕ) (small : Under 256 bytes) (e : ℕ) (long : length bytes ≡ written_length e) where
  -- The units of the changes are the bytes after the first four.
  units_part : map changed_unit (tab e (change_at bytes e)) ≡ take e (drop 4 bytes)
  unfolding change_at
  units_part =
      map_tab changed_unit e (change_at bytes e)
      ∙ tab_ext e (λ i. changed_unit (change_at bytes e i)) (λ i. at bytes (4 + i)) unit
      ∙ tab_part 4 e bytes (omega arith)
    where
      unit : (i : ℕ) → i < e → changed_unit (change_at bytes e i) ≡ at bytes (4 + i)
      unit i l =
          omega (arith, small (4 + e + 3 * i), small (5 + e + 3 * i), small (6 + e + 3 * i))

  -- The body of change i is its three bytes.
  body_part : (i : ℕ) → i < e → body (change_at bytes e i) ≡ take 3 (drop (i * 3) (drop (4 + e) bytes))
  unfolding change_at
  body_part i l =
      let k = 4 + e + i * 3 in
      let zeroth : 4 + e + 3 * i ≡ k + 0 = omega arith in
      let first : 5 + e + 3 * i ≡ k + 1 = omega arith in
      let second : 6 + e + 3 * i ≡ k + 2 = omega arith in
      digits (at bytes (4 + i)) (at bytes (4 + e + 3 * i)) (at bytes (5 + e + 3 * i)) (at bytes (6 + e + 3 * i))
      (small _) (small _) (small _)
      ∙ (λ j. at bytes (zeroth j) ∷ at bytes (first j) ∷ at bytes (second j) ∷ [])
      ∙ tab_part k 3 bytes (omega arith)
      ∙ ap (take 3) (sym (drop-drop (i * 3) (4 + e) bytes))

  -- The bodies are the bytes after the units.
  bodies_part : body_bytes (tab e (change_at bytes e)) ≡ drop (4 + e) bytes
  bodies_part =
      bodies (tab e (change_at bytes e))
      ∙ ap joined (map_tab body e (change_at bytes e))
      ∙ ap joined (tab_ext e (λ i. body (change_at bytes e i)) (λ i. take 3 (drop (i * 3) (drop (4 + e) bytes))) body_part)
      ∙ joined_parts 3 e (drop (4 + e) bytes)
      ∙ take_all (e * 3) (drop (4 + e) bytes) (omega (arith, length-drop (4 + e) bytes))

-- A list of at least four numbers is its first four and the others.
first_four : (xs : List ℕ) → 4 ≤ length xs → at xs 0 ∷ at xs 1 ∷ at xs 2 ∷ at xs 3 ∷ drop 4 xs ≡ xs
first_four xs h = ap (λ zs. zs ++ drop 4 xs) (tab_take 4 xs h) ∙ take-append-drop 4 xs

-- Readable bytes are the ones that their message is written as.
pub writes_back : (n : ℕ) (bytes : List ℕ) → readable n bytes ≡ true → Under 256 bytes → written (message_of bytes) ≡ bytes
unfolding written message_of
writes_back n bytes e small =
    let r : Readable n bytes = readable_of n bytes e in
    let k = at bytes 3 in
    rw (units_part bytes small k r.long, bodies_part bytes small k r.long, length_tab, ← drop-drop, take-append-drop)
    (ap (λ x. x ∷ at bytes 1 ∷ at bytes 2 ∷ k ∷ drop 4 bytes) (sym r.start) ∙ first_four bytes (omega arith))

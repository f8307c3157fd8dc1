-- Legal messages: what the test `legal_message` says of a message and of each of its changes, taken apart into records.
use Prim.Native.Nat.{ℕ, suc, ◌-◌, ◌^◌, ◌≤◌, ◌<◌}
use native.Mathlib.Omega.{arith}
use mathlib.Core.Bool.{Bool, true, not, ◌&&◌, ◌||◌}
use mathlib.Core.List.{List}
use mathlib.Core.Logic.{◌⊎◌, inl, inr, ⊎_elim, ◌≢◌}
use mathlib.Core.Path.{◌≡◌}
use lib.Dec.{eqb, ltb}
use lib.ListN.{length}
use borrow.Author.Tests.{ltb-true, leb-true, eqb-true, eqb-false, not-true, lt-ltb, le-leb, eq-eqb, ne_eqb}
use Rattle.ground.specs.Limits.{unit_limit, legal_cost, highest_cost}
use Rattle.ground.specs.Rows.{at}
use Rattle.ground.proofs.Rows.{every_at, every_of}
use Rattle.ground.proofs.Tests.{both_of, either, either_left, either_right, not_of_false}
use Rattle.ground.proofs.Lists.{parts}
use Rattle.tree.specs.Tree.{head_of, cost_of}
use Rattle.rules.specs.Message.{Message, changed_unit, body_of, removed, update, holds_update, legal_unit}
use Rattle.rules.specs.Message.{legal_body, legal_changes, legal_message}

-- A body that sets an entry: the head is below the count and another than the unit, the cost is at least 1.
pub record LegalSetting (n unit body : ℕ) : Type 0 where
  pub head : head_of body < n
  pub other : head_of body ≢ unit
  pub low : 1 ≤ cost_of body

-- The change at place i: its unit is below the count, not the sender and above the one before; its body is legal.
pub record LegalChange (n sender : ℕ) (changes : List ℕ) (i : ℕ) : Type 0 where
  pub unit : changed_unit (at changes i) < n
  pub other : changed_unit (at changes i) ≢ sender
  pub rising : (i ≡ 0) ⊎ (changed_unit (at changes (i - 1)) < changed_unit (at changes i))
  pub body : (body_of (at changes i) ≡ removed) ⊎ LegalSetting n (changed_unit (at changes i)) (body_of (at changes i))

-- What a legal message of a network of n units is.
pub record Legal (n : ℕ) (m : Message) : Type 0 where
  pub sent-by : m.sender < n
  pub kind_low : 1 ≤ m.kind
  pub kind_high : m.kind ≤ 3
  pub entries : length m.changes ≤ n - 1
  pub bit : (update ≤ m.kind) ⊎ (length m.changes ≡ 0)
  pub each : (i : ℕ) → i < length m.changes → LegalChange n m.sender m.changes i

-- A body that passes the test says that the entry is removed, or sets it.
pub body-of : (n unit body : ℕ) → legal_body n unit body ≡ true → (body ≡ removed) ⊎ LegalSetting n unit body
unfolding legal_body
body-of n unit body e =
    ⊎_elim
    (λ r. inl (eqb-true body removed r))
    (λ (s : ltb (head_of body) n && not (eqb (head_of body) unit) && legal_cost (cost_of body) ≡ true). inr (record {
      head = ltb-true (head_of body) n (search parts);
      other = eqb-false (head_of body) unit (not-true (eqb (head_of body) unit) (search parts));
      low = leb-true 1 (cost_of body) (search parts);
    }))
    (either (eqb body removed) _ e)

-- Such a body passes the test.
pub of_body : (n unit body : ℕ) → (body ≡ removed) ⊎ LegalSetting n unit body → legal_body n unit body ≡ true
unfolding legal_body
of_body n unit body (inl e) = either_left (eqb body removed) _ (eq-eqb body removed e)
of_body n unit body (inr s) =
    let high : cost_of body ≤ highest_cost = omega arith in
    either_right (eqb body removed) _
    (search (both_of, lt-ltb, le-leb, not_of_false, ne_eqb, s.head, s.other, s.low) depth 7)

-- The test of one change.
abbrev legal_at : (n sender : ℕ) (changes : List ℕ) (i : ℕ) → Bool
legal_at n sender changes i =
    legal_unit n sender changes i && legal_body n (changed_unit (at changes i)) (body_of (at changes i))

-- A change that passes the test is legal.
change-of : (n sender : ℕ) (changes : List ℕ) (i : ℕ) → legal_at n sender changes i ≡ true → LegalChange n sender changes i
unfolding legal_unit
change-of n sender changes i e =
    record {
      unit = ltb-true (changed_unit (at changes i)) n (search parts);
      other = eqb-false (changed_unit (at changes i)) sender (not-true (eqb (changed_unit (at changes i)) sender) (search parts));
      rising =
          ⊎_elim
          (λ z. inl (eqb-true i 0 z))
          (λ l. inr (ltb-true (changed_unit (at changes (i - 1))) (changed_unit (at changes i)) l))
          (either (eqb i 0) _ (search parts));
      body = body-of n (changed_unit (at changes i)) (body_of (at changes i)) (search parts);
    }

-- A legal change passes the test.
of_change : (n sender : ℕ) (changes : List ℕ) (i : ℕ) → LegalChange n sender changes i → legal_at n sender changes i ≡ true
unfolding legal_unit
of_change n sender changes i c =
    let before : eqb i 0 || ltb (changed_unit (at changes (i - 1))) (changed_unit (at changes i)) ≡ true =
    ⊎_elim
    (λ z. either_left (eqb i 0) _ (eq-eqb i 0 z))
    (λ l. either_right (eqb i 0) _ (lt-ltb _ _ l))
    c.rising in
    let body : legal_body n (changed_unit (at changes i)) (body_of (at changes i)) ≡ true =
    of_body n (changed_unit (at changes i)) (body_of (at changes i)) c.body in
    search (both_of, lt-ltb, not_of_false, ne_eqb, c.unit, c.other) depth 7

-- Of changes that pass the test each is legal.
pub changes_of : (n sender : ℕ) (changes : List ℕ) → legal_changes n sender changes ≡ true → (i : ℕ) → i < length changes
    → LegalChange n sender changes i
unfolding legal_changes
changes_of n sender changes e i l =
    change-of n sender changes i (every_at (length changes) (legal_at n sender changes) e i l)

-- Changes of which each is legal pass the test.
pub of_changes : (n sender : ℕ) (changes : List ℕ) → ((i : ℕ) → i < length changes → LegalChange n sender changes i)
    → legal_changes n sender changes ≡ true
unfolding legal_changes
of_changes n sender changes each =
    every_of (length changes) (legal_at n sender changes) (λ i l. of_change n sender changes i (each i l))

-- A message that passes the test is legal.
pub legal_of : (n : ℕ) (m : Message) → legal_message n m ≡ true → Legal n m
unfolding legal_message
legal_of n m e =
    record {
      sent-by = ltb-true m.sender n (search parts);
      kind_low = leb-true 1 m.kind (search parts);
      kind_high = leb-true m.kind 3 (search parts);
      entries = leb-true (length m.changes) (n - 1) (search parts);
      bit =
          ⊎_elim
          (λ l. inl (leb-true update m.kind l))
          (λ z. inr (eqb-true (length m.changes) 0 z))
          (either (holds_update m) (eqb (length m.changes) 0) (search parts));
      each = changes_of n m.sender m.changes (search parts);
    }

-- A legal message passes the test.
pub of_legal : (n : ℕ) (m : Message) → Legal n m → legal_message n m ≡ true
unfolding legal_message
of_legal n m legal =
    let bit : holds_update m || eqb (length m.changes) 0 ≡ true =
    ⊎_elim
    (λ l. either_left (holds_update m) _ (le-leb update m.kind l))
    (λ z. either_right (holds_update m) _ (eq-eqb (length m.changes) 0 z))
    legal.bit in
    let changes : legal_changes n m.sender m.changes ≡ true =
    of_changes n m.sender m.changes legal.each in
    search (both_of, lt-ltb, le-leb, legal.sent-by, legal.kind_low, legal.kind_high, legal.entries) depth 7

-- The units of a legal message's changes rise strictly.
pub units_rise : (n : ℕ) (m : Message) → Legal n m → (i : ℕ) → suc i < length m.changes
    → changed_unit (at m.changes i) < changed_unit (at m.changes (suc i))
units_rise n m legal i l =
    ⊎_elim
    (λ z. absurd (omega arith))
    (λ h. let e : suc i - 1 ≡ i = omega arith in rw e at h)
    (legal.each (suc i) l).rising

-- A change of a legal message fits four bytes.
pub change_fits : (n : ℕ) (m : Message) → Legal n m → n ≤ unit_limit → (i : ℕ) → i < length m.changes
    → at m.changes i < 2 ^ 32
change_fits n m legal h i l = omega (arith, (legal.each i l).unit)

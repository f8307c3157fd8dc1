-- One direction of one link: the updates of unit i that travel to unit k, the acknowledgments that travel back, and k's
-- copy of i's tree. `Line` is what holds of a direction at all times. Counting says it in one line: updates on the way
-- there and acknowledgments on the way back add up to 1 where i awaits k, to 0 where it does not. The laws below take a
-- Line over each thing that can happen to a direction.
use Prim.Native.Nat.{ℕ, ◌+◌, ◌≤◌}
use native.Mathlib.Nat.{le_refl}
use native.Mathlib.Omega.{arith}
use mathlib.Core.Bool.{Bool, true, false, true≢false}
use mathlib.Core.List.{List, [], ◌∷◌, ◌++◌}
use mathlib.Core.Logic.{◌⊎◌, inl, inr}
use mathlib.Core.Path.{◌≡◌, refl, sym, ap, ◌∙◌}
use Rattle.std.specs.Prelude.{if◌then◌else◌}
use Rattle.ground.specs.Rows.{at, zeros}
use Rattle.ground.specs.Each.{Each, none, one}
use Rattle.ground.proofs.Each.{each_rest, each_append, each_map}
use Rattle.ground.proofs.Tests.{not_both, if_true, if_false}
use Rattle.tree.specs.Tree.{distance}
use Rattle.rules.specs.Event.{changes_nothing}
use Rattle.rules.specs.Message.{Message, holds_update, holds_acknowledgment, applied}
use Rattle.loopfree.specs.Conditions.{count_in, updates_in, acknowledgments_in, heard, heard_all}
use Rattle.ground.proofs.Cases.{by_test}

-- 1 where a test holds, else 0.
abbrev pub one_if : Bool → ℕ
one_if b = if b then 1 else 0

-- It is 1 for a test that holds.
pub one_of : (b : Bool) → b ≡ true → one_if b ≡ 1
one_of b e = if_true b 1 0 e

-- It is 0 for a test that does not.
pub none_of : (b : Bool) → b ≡ false → one_if b ≡ 0
none_of b e = if_false b 1 0 e

-- Messages one after the other.
count_append : (test : Message → Bool) (xs ys : List Message)
    → count_in test (xs ++ ys) ≡ count_in test xs + count_in test ys
unfolding count_in
count_append test [] ys = omega arith
count_append test (m ∷ xs) ys = omega (arith, count_append test xs ys)

-- A message that is told over a copy: each of its changes changes something there, and without an update it has none.
pub record Telling (copy : List ℕ) (m : Message) : Type 0 where
  pub changing : changes_nothing copy m.changes ≡ false
  pub bare : holds_update m ≡ false → m.changes ≡ []

-- One without changes is.
pub tells_none : {copy : List ℕ} {m : Message} → m.changes ≡ [] → Telling copy m
unfolding changes_nothing
tells_none e = record { changing = rw e; bare = λ h. e }

-- The direction from unit i to another unit. Of i: whether its end is up, 1 or 0 for whether it waits, its tree and
-- feasible distances. Of the other: its copy of i's tree. `there` are the messages queued to it, `back` those queued to
-- i. An end that is up: once all that is queued there has arrived, the copy is i's tree. An end that is down: no wait, so
-- no update there and no acknowledgment back, and an empty copy. Always: feasible distances at most the copy's distances,
-- and each change of an update that is queued there changes something in the copy.
pub record Line (n i : ℕ) (up : Bool) (waits : ℕ) (tree feasible copy : List ℕ) (there back : List Message) : Type 0 where
  pub balance : updates_in there + acknowledgments_in back ≡ waits
  pub single : waits ≤ 1
  pub arrives : up ≡ true → heard_all copy there ≡ tree
  pub off : up ≡ false → (waits ≡ 0) × (copy ≡ zeros n)
  pub lower : (j : ℕ) → at feasible j ≤ distance n i copy j
  pub told : Each (Telling copy) there

-- What arrives by some messages, then by others.
heard_append : (copy : List ℕ) (xs ys : List Message) → heard_all copy (xs ++ ys) ≡ heard_all (heard_all copy xs) ys
unfolding heard_all
heard_append copy [] ys = refl
heard_append copy (m ∷ xs) ys = heard_append (heard copy m) xs ys

-- Messages that hold no update leave the copy.
heard_none : (copy : List ℕ) (xs : List Message) → updates_in xs ≡ 0 → heard_all copy xs ≡ copy
unfolding count_in heard_all
heard_none copy [] e = refl
heard_none copy (m ∷ xs) e =
    by_test (holds_update m)
    (λ h. absurd (omega (arith, one_of (holds_update m) h)))
    (λ h. ap (λ (c : List ℕ). heard_all c xs) (if_false (holds_update m) (applied copy m.changes) copy h)
    ∙ heard_none copy xs (omega (arith, none_of (holds_update m) h)))

-- Each of them holds none.
no_updates : (xs : List Message) → updates_in xs ≡ 0 → Each (λ m. holds_update m ≡ false) xs
unfolding count_in
no_updates [] e = none
no_updates (m ∷ xs) e =
    by_test (holds_update m)
    (λ h. absurd (omega (arith, one_of (holds_update m) h)))
    (λ h. one h (no_updates xs (omega (arith, none_of (holds_update m) h))))

-- Of messages with at most one update it is that update which makes the copy.
pub only_update : (copy : List ℕ) (xs : List Message) → updates_in xs ≤ 1
    → Each (λ m. holds_update m ≡ true → heard_all copy xs ≡ applied copy m.changes) xs
unfolding count_in heard_all
only_update copy [] few = none
only_update copy (m ∷ xs) few =
    by_test (holds_update m)
    (λ h.
    let none_left : updates_in xs ≡ 0 = omega (arith, one_of (holds_update m) h) in
    one (λ _. rw h (heard_none (applied copy m.changes) xs none_left))
    (each_map (λ x u r. absurd (not_both (holds_update x) r u)) (no_updates xs none_left)))
    (λ h. one (λ r. absurd (not_both (holds_update m) r h))
    (rw h (only_update copy xs (omega (arith, none_of (holds_update m) h)))))

-- Messages that hold no update are told over any copy.
retold : (old new : List ℕ) {xs : List Message} → updates_in xs ≡ 0 → Each (Telling old) xs → Each (Telling new) xs
unfolding count_in
retold old new e none = none
retold old new e (one {x = m} p ps) =
    by_test (holds_update m)
    (λ h. absurd (omega (arith, one_of (holds_update m) h)))
    (λ h. one (tells_none (p.bare h)) (retold old new (omega (arith, none_of (holds_update m) h)) ps))

module _ {n i : ℕ} {up : Bool} {waits : ℕ} {tree feasible copy : List ℕ} {there back : List Message} where
  -- Where i does not wait, the copy is i's tree, or the empty one and the link is down.
  pub line_settled : Line n i up waits tree feasible copy there back → waits ≡ 0
      → ((up ≡ true) × (copy ≡ tree)) ⊎ (copy ≡ zeros n)
  line_settled l w =
      by_test up
      (λ u. inl (u, sym (heard_none copy there (omega arith)) ∙ l.arrives u))
      (λ u. inr (l.off u).1)

  -- Messages without an acknowledgment, sent back, change nothing.
  pub line_back : (sent : List Message) → acknowledgments_in sent ≡ 0 → Line n i up waits tree feasible copy there back
      → Line n i up waits tree feasible copy there (back ++ sent)
  line_back sent e l =
      record {
        balance = omega (arith, count_append holds_acknowledgment back sent);
        single = l.single;
        arrives = l.arrives;
        off = l.off;
        lower = l.lower;
        told = l.told;
      }

  -- The first message that i gets back is received: its acknowledgment clears the wait.
  pub line_answered : (m : Message) → Line n i up waits tree feasible copy there (m ∷ back)
      → Line n i up (if holds_acknowledgment m then 0 else waits) tree feasible copy there back
  unfolding count_in
  line_answered m l =
      let w : (if holds_acknowledgment m then 0 else waits) ≡ updates_in there + acknowledgments_in back =
      by_test (holds_acknowledgment m)
      (λ h. rw h (omega (arith, one_of (holds_acknowledgment m) h)))
      (λ h. rw h (omega (arith, none_of (holds_acknowledgment m) h))) in
      record {
        balance = sym w;
        single = omega arith;
        arrives = l.arrives;
        off = λ d. (let z : waits ≡ 0 = (l.off d).0 in omega arith, (l.off d).1);
        lower = l.lower;
        told = l.told;
      }

  -- The first message that i sent is received: its update changes the copy, and is acknowledged.
  pub line_heard : (m : Message) (sent : List Message) → acknowledgments_in sent ≡ one_if (holds_update m)
      → ((j : ℕ) → at feasible j ≤ distance n i tree j) → Line n i up waits tree feasible copy (m ∷ there) back
      → Line n i up waits tree feasible (heard copy m) there (back ++ sent)
  unfolding count_in heard_all
  line_heard m sent e own l =
      record {
        balance = omega (arith, count_append holds_acknowledgment back sent);
        single = l.single;
        arrives = l.arrives;
        off = λ d.
            let z : waits ≡ 0 = (l.off d).0 in
            (z, quiet (omega arith) ∙ (l.off d).1);
        lower = λ j. by_test (holds_update m) (heard_lower j) (λ h. rw h (l.lower j));
        told = by_test (holds_update m)
            (λ h. let one : one_if (holds_update m) ≡ 1 = one_of (holds_update m) h in
            retold copy (heard copy m) (omega arith) (each_rest l.told))
            (λ h. rw h (each_rest l.told));
      }
    where
      quiet : one_if (holds_update m) ≡ 0 → heard copy m ≡ copy
      quiet z =
          by_test (holds_update m)
          (λ h. absurd (omega (arith, one_of (holds_update m) h)))
          (λ h. if_false (holds_update m) (applied copy m.changes) copy h)

      heard_lower : (j : ℕ) → holds_update m ≡ true → at feasible j ≤ distance n i (heard copy m) j
      heard_lower j h =
          let one : one_if (holds_update m) ≡ 1 = one_of (holds_update m) h in
          let none : updates_in there ≡ 0 = omega arith in
          by_test up
          (λ u. rw (sym (heard_none (heard copy m) there none) ∙ l.arrives u) (own j))
          (λ u. absurd (omega (arith, (l.off u).0)))

  -- The link comes up at i's end: what k should know is the empty tree.
  pub line_up : up ≡ false → Line n i up waits tree feasible copy there back
      → Line n i true waits (zeros n) feasible copy there back
  line_up d l =
      record {
        balance = l.balance;
        single = l.single;
        arrives = λ u. heard_none copy there (omega (arith, (l.off d).0)) ∙ (l.off d).1;
        off = λ u. absurd (true≢false u);
        lower = l.lower;
        told = l.told;
      }

  -- An update is sent to a neighbour that i does not wait for.
  pub line_sent : (m : Message) (new lowered : List ℕ) → holds_update m ≡ true → changes_nothing tree m.changes ≡ false
      → applied tree m.changes ≡ new → ((j : ℕ) → at lowered j ≤ distance n i copy j) → up ≡ true → waits ≡ 0
      → Line n i up waits tree feasible copy there back
      → Line n i up 1 new lowered copy (there ++ (m ∷ [])) back
  unfolding count_in heard_all
  line_sent m new lowered h c e low u w l =
      let settled : copy ≡ tree = sym (heard_none copy there (omega arith)) ∙ l.arrives u in
      record {
        balance = omega (arith, count_append holds_update there (m ∷ []), one_of (holds_update m) h);
        single = le_refl 1;
        arrives = λ u.
            heard_append copy there (m ∷ [])
            ∙ ap (λ (c : List ℕ). heard c m) (l.arrives u)
            ∙ if_true (holds_update m) (applied tree m.changes) tree h
            ∙ e;
        off = λ d. absurd (true≢false (sym u ∙ d));
        lower = low;
        told = each_append l.told
            (one (record { changing = rw settled c; bare = λ d. absurd (not_both (holds_update m) h d) }) none);
      }

  -- No update is sent, and to a neighbour the tree is the same.
  pub line_kept : (sent : List Message) (new lowered : List ℕ) → updates_in sent ≡ 0 → Each (Telling copy) sent
      → (up ≡ true → tree ≡ new)
      → ((j : ℕ) → at lowered j ≤ distance n i copy j)
      → Line n i up waits tree feasible copy there back
      → Line n i up waits new lowered copy (there ++ sent) back
  line_kept sent new lowered e s t low l =
      record {
        balance = omega (arith, count_append holds_update there sent);
        single = l.single;
        arrives = λ u. heard_append copy there sent ∙ heard_none (heard_all copy there) sent e ∙ l.arrives u ∙ t u;
        off = l.off;
        lower = low;
        told = each_append l.told s;
      }

-- A link that is down at i's end, its queues empty.
pub line_down : (n i : ℕ) (tree feasible : List ℕ) → ((j : ℕ) → at feasible j ≤ distance n i (zeros n) j)
    → Line n i false 0 tree feasible (zeros n) [] []
unfolding count_in
line_down n i tree feasible low =
    record {
      balance = refl;
      single = omega arith;
      arrives = λ u. absurd (true≢false (sym u));
      off = λ d. (refl, refl);
      lower = low;
      told = none;
    }

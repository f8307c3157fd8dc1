-- Step A: changes made in a copy, one after the other, also in one that is filled up with zeros; and that the unit stays
-- shaped.
use Prim.Native.Nat.{ℕ, zero, suc, ◌+◌, ◌<◌, suc-le-suc}
use native.Mathlib.Numerals.{add-one}
use native.Mathlib.Omega.{arith}
use mathlib.Core.Bool.{Bool, true, false}
use mathlib.Core.List.{List, [], ◌∷◌, ◌++◌}
use mathlib.Core.Logic.{⊎_elim}
use mathlib.Core.Path.{◌≡◌, refl, sym, ap, ◌∙◌}
use lib.Dec.{eqb}
use lib.ListN.{length, set, take, length-set, length-replicate}
use lib.Seq.{take-suc, get_or-set_same, get_or-set_other}
use Rattle.std.specs.Prelude.{if◌then◌else◌}
use Rattle.ground.specs.Rows.{at, zeros, filled}
use Rattle.tree.specs.Recompute.{copy_of}
use Rattle.ground.proofs.Places.{at_filled}
use Rattle.ground.proofs.Rows.{some_ext}
use Rattle.ground.proofs.Stored.{set_filled}
use Rattle.ground.proofs.Tests.{equal_or_not}
use Rattle.rules.specs.Event.{Event, received, link_up, new_cost, link_down, noted, with_links, changes_nothing}
use Rattle.rules.specs.Message.{changed_unit, body_of, entry_of, applied, holds_acknowledgment, holds_update}
use Rattle.rules.specs.Unit.{Unit}
use Rattle.rules.proofs.Laid.{ShapedUnit}

-- A copy with one change made.
abbrev pub with_change : (copy : List ℕ) (c : ℕ) → List ℕ
with_change copy c = set copy (changed_unit c) (entry_of (body_of c))

-- One change more is made last.
pub applied_more : (copy changes : List ℕ) (c : ℕ) → applied copy (changes ++ (c ∷ [])) ≡ with_change (applied copy changes) c
unfolding applied
applied_more copy [] c = refl
applied_more copy (d ∷ rest) c = applied_more (with_change copy d) rest c

-- One turn of a loop that makes the changes.
pub applied_next : (copy changes : List ℕ) (i : ℕ) → i < length changes
    → with_change (applied copy (take i changes)) (at changes i) ≡ applied copy (take (i + 1) changes)
applied_next copy changes i h =
    rw (add-one, take-suc changes i 0) (sym (applied_more copy (take i changes) (at changes i)))

-- The copy keeps its length.
pub length_applied : (copy changes : List ℕ) → length (applied copy changes) ≡ length copy
unfolding applied
length_applied copy [] = refl
length_applied copy (c ∷ rest) =
    length_applied (with_change copy c) rest ∙ length-set copy (changed_unit c) (entry_of (body_of c))

-- Making changes of units that have a place and filling the copy up, in either order.
pub applied_filled : (m : ℕ) (copy changes : List ℕ) → ((i : ℕ) → i < length changes → changed_unit (at changes i) < length copy)
    → applied (filled m copy) changes ≡ filled m (applied copy changes)
unfolding applied
applied_filled m copy [] h = refl
applied_filled m copy (c ∷ rest) h =
    ap (λ (row : List ℕ). applied row rest) (set_filled m copy (changed_unit c) (entry_of (body_of c)) (h zero (omega arith)))
    ∙ applied_filled m (with_change copy c) rest (λ i l. rw length-set (h (suc i) (suc-le-suc l)))

-- Whether some change changes nothing is the same in a copy that is filled up.
pub changes_nothing_filled : (m : ℕ) (copy changes : List ℕ) → changes_nothing (filled m copy) changes ≡ changes_nothing copy changes
unfolding changes_nothing
changes_nothing_filled m copy changes =
    some_ext (length changes) (λ i. here (filled m copy) i) (λ i. here copy i)
    (λ i l. ap (λ (entry : ℕ). eqb entry (entry_of (body_of (at changes i)))) (at_filled m copy (changed_unit (at changes i))))
  where
    here : (row : List ℕ) (i : ℕ) → Bool
    here row i = eqb (at row (changed_unit (at changes i))) (entry_of (body_of (at changes i)))

module _ (u : Unit) (s : ShapedUnit u) where
  -- Each copy keeps its length where one is replaced by a row of the count's length.
  copy_replaced : (k : ℕ) (row : List ℕ) → (k < u.count → length row ≡ u.count) → (j : ℕ) → j < u.count
      → length (copy_of (set u.copies k row) j) ≡ u.count
  copy_replaced k row e j l =
      ⊎_elim
      (λ q. ap (λ (i : ℕ). length (copy_of (set u.copies k row) i)) q
      ∙ ap length (get_or-set_same u.copies k row [] (omega (arith, s.copies)))
      ∙ e (omega arith))
      (λ d. ap length (get_or-set_other u.copies k j row [] d) ∙ s.copy j l)
      (equal_or_not j k)

  -- A unit with other links is shaped where they have the count's length.
  shaped_links : (costs awaited : List ℕ) (copies : List (List ℕ)) → length costs ≡ u.count → length awaited ≡ u.count
      → length copies ≡ u.count → ((j : ℕ) → j < u.count → length (copy_of copies j) ≡ u.count)
      → ShapedUnit (with_links u costs copies awaited)
  shaped_links costs awaited copies c w n each =
      record {
        limit = s.limit;
        costs = c;
        awaited = w;
        tree = s.tree;
        feasible = s.feasible;
        copies = n;
        copy = each;
      }

  -- Step A leaves the unit shaped.
  pub noted_shaped : (e : Event) → ShapedUnit (noted u e)
  unfolding noted
  noted_shaped (received m) =
      shaped_links u.costs (waits (holds_acknowledgment m)) (copies (holds_update m)) s.costs
      (waited (holds_acknowledgment m)) (copied (holds_update m)) (each (holds_update m))
    where
      waits : Bool → List ℕ
      waits b = if b then set u.awaited m.sender 0 else u.awaited

      copies : Bool → List (List ℕ)
      copies b =
          if b then set u.copies m.sender (applied (copy_of u.copies m.sender) m.changes) else u.copies

      waited : (b : Bool) → length (waits b) ≡ u.count
      waited true = length-set u.awaited m.sender 0 ∙ s.awaited
      waited false = s.awaited

      copied : (b : Bool) → length (copies b) ≡ u.count
      copied true = length-set u.copies m.sender _ ∙ s.copies
      copied false = s.copies

      each : (b : Bool) (j : ℕ) → j < u.count → length (copy_of (copies b) j) ≡ u.count
      each true =
          copy_replaced m.sender (applied (copy_of u.copies m.sender) m.changes)
          (λ l. length_applied (copy_of u.copies m.sender) m.changes ∙ s.copy m.sender l)
      each false = s.copy
  noted_shaped (link_up k c) =
      shaped_links (set u.costs k c) u.awaited (set u.copies k (zeros u.count))
      (length-set u.costs k c ∙ s.costs) s.awaited (length-set u.copies k (zeros u.count) ∙ s.copies)
      (copy_replaced k (zeros u.count) (λ l. length-replicate u.count 0))
  noted_shaped (new_cost k c) =
      shaped_links (set u.costs k c) u.awaited u.copies (length-set u.costs k c ∙ s.costs) s.awaited s.copies
      s.copy
  noted_shaped (link_down k) =
      shaped_links (set u.costs k 0) (set u.awaited k 0) (set u.copies k (zeros u.count))
      (length-set u.costs k 0 ∙ s.costs) (length-set u.awaited k 0 ∙ s.awaited)
      (length-set u.copies k (zeros u.count) ∙ s.copies)
      (copy_replaced k (zeros u.count) (λ l. length-replicate u.count 0))

-- `message::fields::legal_fields` meets its contract: each return rewrites the definition by the tests that led there.
use Prim.Native.Nat.{ℕ, ◌-◌, ◌≤◌, ◌<◌}
use native.Mathlib.Omega.{arith}
use mathlib.Core.Bool.{Bool, true, false, ◌&&◌}
use mathlib.Core.Path.{◌≡◌, refl, sym}
use borrow.Author.Tests.{eq-eqb, ne_eqb, ltb-true, le-ltb, lt-ltb, le-leb, lt-leb}
use lib.Dec.{ltb, leb}
use Rattle.rules.specs.Message.{legal_message}
use Rattle.ground.proofs.Tests.{and_false, and_no}
use Rattle.message.specs.Kind.{kind_number}
use Rattle.message.proofs.KindNumbers.{legal_kind}
use Rattle.message.proofs.fields.legal_fields.Goals as goal
use Rattle.message.proofs.fields.legal_fields.Goals.{else-not-updates-via-then-not-updates+else-changes-ne0, else-not-updates-via-else-not-updates}

-- At most the count less one entries, or not. Where the count is 0 there is no sender below it.
too_many : (sender count entries : ℕ) (kinds : Bool) → count ≤ entries
    → ltb sender count && kinds && leb entries (count - 1) ≡ false
too_many sender count entries kinds h = go (ltb sender count) refl
  where
    go : (t : Bool) → ltb sender count ≡ t → t && kinds && leb entries (count - 1) ≡ false
    go true e =
        let some : sender < count = ltb-true sender count e in
        and_false kinds _ (lt-leb entries (count - 1) (omega arith))
    go false e = refl

few_enough : (entries count : ℕ) → entries < count → leb entries (count - 1) ≡ true
few_enough entries count h = le-leb entries (count - 1) (omega arith)

pub returns-then-count-sender : goal.returns-then-count-sender
unfolding legal_message
returns-then-count-sender c =
    let args = c.args in
    simp (le-ltb args.sender args.count (omega arith))

pub returns-then-count-changes : goal.returns-then-count-changes
unfolding legal_message
returns-then-count-changes c =
    let args = c.args in
    simp (too_many args.sender args.count _ (leb 1 (kind_number args.kind) && leb (kind_number args.kind) 3) c.if-count-changes.true)

pub returns-then-changes-ne0 : goal.returns-then-changes-ne0
unfolding legal_message
returns-then-changes-ne0 c = simp (sym c.if-not-updates.ensures, ne_eqb _ _ c.if-changes-ne0.true, and_no)

pub returns : goal.returns
unfolding legal_message
returns c =
    simp
    (lt-ltb _ _ c.if-count-sender.false, legal_kind c.args.kind, few_enough _ _ c.if-count-changes.false)
    (elim c.else-not-updates.branch [
      | else-not-updates-via-then-not-updates+else-changes-ne0 w ↦
          simp (sym w.if-not-updates.ensures, eq-eqb _ _ w.if-changes-ne0.false) c.legal_changes.ensures
      | else-not-updates-via-else-not-updates w ↦ simp (sym w.if-not-updates.ensures) c.legal_changes.ensures
    ])

-- `state::held::copies` meets its contract. The invariant: the first i numbers are the copies', the rest zeros.
use Prim.Native.Nat.{◌/◌, ◌%◌, ℕ, ◌+◌, ◌<◌}
use native.Mathlib.Omega.{arith}
use mathlib.Core.Bool.{Bool, false, ◌&&◌}
use mathlib.Core.List.{List}
use mathlib.Core.Path.{◌≡◌, refl, ◌∙◌}
use borrow.Author.Tests.{lt-ltb, le-ltb}
use lib.Dec.{ltb}
use lib.ListN.{set}
use Rattle.ground.specs.Limits.{unit_limit}
use Rattle.ground.specs.Rows.{at, tab, filled}
use Rattle.rules.specs.Tables.{copy_at}
use Rattle.ground.proofs.Filled.{filled_tab}
use Rattle.ground.proofs.Places.{filled_kept}
use Rattle.ground.proofs.Tests.{if_true, if_false, both_of, and_false}
use Rattle.recomputing.specs.Flat.{flat_length}
use Rattle.state.specs.Holding.{copy_place}
use Rattle.state.proofs.held.copies.Goals as goal
use Rattle.state.proofs.held.copies.Goals.{then-i-count+then-i-count-2, then-i-count+else-i-count-2, else-i-count}

-- A place of the copies that counts.
abbrev counts : (n i : ℕ) → Bool
counts n i = ltb (i / unit_limit) n && ltb (i % unit_limit) n

-- It is stored.
stored : (n : ℕ) (words : List ℕ) (i : ℕ) (before : List ℕ) → i < flat_length → i / unit_limit < n → i % unit_limit < n
    → before ≡ filled flat_length (tab i (copy_place n words))
    → set before i (at words (copy_at 0 + i)) ≡ filled flat_length (tab (i + 1) (copy_place n words))
stored n words i before h row place e =
    let here : copy_place n words i ≡ at words (copy_at 0 + i) =
    if_true (counts n i) _ 0 (both_of _ _ (lt-ltb _ _ row) (lt-ltb _ _ place)) in
    rw (e, ← here) (filled_tab flat_length i (copy_place n words) h)

-- Any other stays 0.
kept : (n : ℕ) (words : List ℕ) (i : ℕ) (before : List ℕ) → i < flat_length → counts n i ≡ false
    → before ≡ filled flat_length (tab i (copy_place n words))
    → before ≡ filled flat_length (tab (i + 1) (copy_place n words))
kept n words i before h off e = e ∙ filled_kept flat_length i (copy_place n words) h (if_false (counts n i) _ 0 off)

pub loop-i-preserved : goal.loop-i-preserved
loop-i-preserved c =
    let here = c.loop-i in
    let args = c.args in
    let store = stored args.count args.table.now here.i here.numbers (omega arith) in
    let keep = kept args.count args.table.now here.i here.numbers (omega arith) in
    elim c.if-i-count.branch [
      | then-i-count+then-i-count-2 w ↦ w.numbers-is ∙ store w.if-i-count.true w.if-i-count-2.true here.invariant
      | then-i-count+else-i-count-2 w ↦
          w.numbers-is
          ∙ keep (and_false (ltb (here.i / unit_limit) args.count) _ (le-ltb _ _ w.if-i-count-2.false)) here.invariant
      | else-i-count w ↦ w.numbers-is ∙ keep (rw (le-ltb _ _ w.if-i-count.false)) here.invariant
    ]

pub returns : goal.returns
returns c =
    let all : c.loop-i.i ≡ flat_length = omega arith in
    rw (c.loop-i.invariant, all) refl

-- `state::held::lay` meets its contract: each call makes the table begin with one row more, and the last makes it whole.
use Prim.Native.Nat.{ℕ}
use native.Mathlib.Omega.{arith}
use mathlib.Core.List.{List, [], ◌∷◌, ◌++◌}
use mathlib.Core.Path.{◌≡◌, sym, ◌∙◌}
use borrow.Author.Rules.{rules}
use lib.ListN.{length, set, length-set}
use Rattle.ground.specs.Limits.{unit_limit}
use Rattle.rules.specs.Tables.{row_start, unit_words}
use Rattle.recomputing.specs.Flat.{flat_length}
use Rattle.state.proofs.Holding.{Begins, begins_two, begins_more, begins_all}
use Rattle.state.proofs.held.lay.Statement.{statement}
use Rattle.state.proofs.held.lay.Tie as tie

-- The lengths of the arrays.
record Long (c : tie.Start) : Type 0 where
  costs : length c.args.unit.costs ≡ unit_limit
  awaited : length c.args.unit.awaited ≡ unit_limit
  tree : length c.args.unit.tree ≡ unit_limit
  feasible : length c.args.unit.feasible ≡ unit_limit
  successors : length c.args.successors ≡ unit_limit
  copies : length c.args.unit.copies ≡ flat_length

long : (c : tie.Start) → Long c
long c =
    record {
      costs = search rules;
      awaited = search rules;
      tree = search rules;
      feasible = search rules;
      successors = search rules;
      copies = search rules;
    }

-- The places after each call, and the function's entry as they see it.
abbrev start1 : tie.After-put_row → tie.Start
start1 c = c.before.before.before.before.before.before.before.before.before.before

abbrev start2 : tie.After-put_row-2 → tie.Start
start2 c = start1 c.before.before.before.before

abbrev start3 : tie.After-put_row-3 → tie.Start
start3 c = start2 c.before.before.before.before

abbrev start4 : tie.After-put_row-4 → tie.Start
start4 c = start3 c.before.before.before.before

abbrev start5 : tie.After-put_row-5 → tie.Start
start5 c = start4 c.before.before.before.before

abbrev start6 : tie.After-put_copies → tie.Start
start6 c = start5 c.before.before.before.before

-- What is laid before the first call, and by the end of each.
abbrev laid0 : tie.Start → List ℕ
laid0 c = c.args.unit.count ∷ c.args.unit.me ∷ []

abbrev laid1 : tie.Start → List ℕ
laid1 c = laid0 c ++ c.args.unit.costs

abbrev laid2 : tie.Start → List ℕ
laid2 c = laid1 c ++ c.args.unit.awaited

abbrev laid3 : tie.Start → List ℕ
laid3 c = laid2 c ++ c.args.unit.tree

abbrev laid4 : tie.Start → List ℕ
laid4 c = laid3 c ++ c.args.unit.feasible

abbrev laid5 : tie.Start → List ℕ
laid5 c = laid4 c ++ c.args.successors

abbrev laid6 : tie.Start → List ℕ
laid6 c = laid5 c ++ c.args.unit.copies

-- So the table begins.
begins0 : (c : tie.Start)
    → Begins 2 (laid0 c) (set (set c.args.table.now 0 c.args.unit.count) 1 c.args.unit.me)
begins0 c = begins_two c.args.unit.count c.args.unit.me c.args.table.now c.requires.0

begins1 : (c : tie.After-put_row) → Begins (row_start 1) (laid1 (start1 c)) c.put_row.new.table
begins1 c = begins_more (row_start 0) unit_limit _ _ _ _ (begins0 (start1 c)) (omega arith) (long (start1 c)).costs c.put_row.ensures

begins2 : (c : tie.After-put_row-2) → Begins (row_start 2) (laid2 (start2 c)) c.put_row-2.new.table
begins2 c = begins_more (row_start 1) unit_limit _ _ _ _ (begins1 c.before.before.before.before) (omega arith) (long (start2 c)).awaited c.put_row-2.ensures

begins3 : (c : tie.After-put_row-3) → Begins (row_start 3) (laid3 (start3 c)) c.put_row-3.new.table
begins3 c = begins_more (row_start 2) unit_limit _ _ _ _ (begins2 c.before.before.before.before) (omega arith) (long (start3 c)).tree c.put_row-3.ensures

begins4 : (c : tie.After-put_row-4) → Begins (row_start 4) (laid4 (start4 c)) c.put_row-4.new.table
begins4 c = begins_more (row_start 3) unit_limit _ _ _ _ (begins3 c.before.before.before.before) (omega arith) (long (start4 c)).feasible c.put_row-4.ensures

begins5 : (c : tie.After-put_row-5) → Begins (row_start 5) (laid5 (start5 c)) c.put_row-5.new.table
begins5 c = begins_more (row_start 4) unit_limit _ _ _ _ (begins4 c.before.before.before.before) (omega arith) (long (start5 c)).successors c.put_row-5.ensures

begins6 : (c : tie.After-put_copies) → Begins unit_words (laid6 (start6 c)) c.put_copies.new.table
begins6 c = begins_more (row_start 5) flat_length _ _ _ _ (begins5 c.before.before.before.before) (omega arith) (long (start6 c)).copies c.put_copies.ensures

same_length : tie.Need-shape_of-table
same_length c = (begins6 c.before.before).long ∙ sym (start6 c.before.before).requires.0

returns : tie.Need-returns
returns c = begins_all _ _ (begins6 c.before.before)

pub lay_spec : {M : Type 1} → statement M
lay_spec =
    tie.close
    (tie.spec
    (λ c. search rules) (λ c. search rules) (λ c. search rules) (λ c. simp length-set (omega arith))
    (λ c κs. search rules) (λ c κs. search rules) (λ c κs. search rules) (λ c κs. search rules)
    (λ c κs. search rules) (λ c κs. search rules)
    same_length
    returns)

-- `recomputing::heads::distance` meets its contract: each return is a step of following heads.
use native.Mathlib.Omega.{arith}
use mathlib.Core.Path.{sym}
use lib.ListN.{get_or-eq_default}
use Rattle.tree.proofs.Follow.{follow_cut, follow_more}
use Rattle.tree.proofs.Tree.{distance_root, distance_none}
use Rattle.recomputing.proofs.heads.+distance.Goals as goal

pub returns-then-j-root : goal.returns-then-j-root
returns-then-j-root t c = sym (distance_root _ _ _ _ c.if-j-root.true)

pub returns-then-left-eq0 : goal.returns-then-left-eq0
returns-then-left-eq0 t c = sym (follow_cut _ _ _ _ c.if-j-root.false c.if-left-eq0.true)

pub returns-then-tree-j : goal.returns-then-tree-j
returns-then-tree-j t c =
    sym (distance_none _ _ _ _ c.if-j-root.false (get_or-eq_default c.args.tree.now 0 c.if-tree-j.true))

pub returns-then-entry-eq0 : goal.returns-then-entry-eq0
returns-then-entry-eq0 t c = sym (distance_none _ _ _ _ c.if-j-root.false c.if-entry-eq0.true)

pub overflow_cast-entry : goal.overflow_cast-entry
overflow_cast-entry t c = omega (arith, c.type_inv.tree c.args.j)

pub returns : goal.returns
returns t c =
    rw (c.plus.ensures, c.distance.ensures)
    (sym (follow_more _ _ _ _ c.if-j-root.false c.if-left-eq0.false c.if-entry-eq0.false))

-- `recomputing::heads::legal_entry` meets its contract: each return rewrites the definition by the tests that led there.
use native.Mathlib.Omega.{arith}
use borrow.Author.Tests.{eq-eqb, ne_eqb, le-ltb, lt-ltb, le-leb, lt-leb}
use Rattle.recomputing.proofs.heads.legal_entry.Goals as goal

pub returns-then-entry-eq0 : goal.returns-then-entry-eq0
returns-then-entry-eq0 c = simp (eq-eqb _ _ c.if-entry-eq0.true)

pub returns-then-j-root : goal.returns-then-j-root
returns-then-j-root c = simp (ne_eqb _ _ c.if-entry-eq0.false, eq-eqb _ _ c.if-j-root.true)

pub overflow_cast-entry : goal.overflow_cast-entry
overflow_cast-entry c =
    omega (arith, c.type_inv.tree c.args.j)

pub returns-then-tree-entry : goal.returns-then-tree-entry
returns-then-tree-entry c =
    simp (ne_eqb _ _ c.if-entry-eq0.false, ne_eqb _ _ c.if-j-root.false, le-ltb _ _ c.if-tree-entry.true)

pub returns-then-entry-lt1 : goal.returns-then-entry-lt1
returns-then-entry-lt1 c =
    simp
    (ne_eqb _ _ c.if-entry-eq0.false, ne_eqb _ _ c.if-j-root.false, lt-ltb _ _ c.if-tree-entry.false, lt-leb _ _ c.if-entry-lt1.true)

pub returns : goal.returns
returns c =
    simp
    (ne_eqb _ _ c.if-entry-eq0.false, ne_eqb _ _ c.if-j-root.false, lt-ltb _ _ c.if-tree-entry.false, le-leb _ _ c.if-entry-lt1.false, c.distance.ensures)

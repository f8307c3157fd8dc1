-- `recomputing::links::link_from` meets its contract: each return rewrites the definition by the test that led there.
use mathlib.Core.Path.{sym, ◌∙◌}
use borrow.Author.Tests.{eq-eqb, ne_eqb}
use Rattle.ground.proofs.Tests.{if_true, if_false}
use Rattle.recomputing.proofs.links.link_from.Goals as goal

pub returns-then-entry-i : goal.returns-then-entry-i
returns-then-entry-i c = sym (if_false _ _ _ (ne_eqb _ _ c.if-entry-i.true))

pub returns : goal.returns
returns c = c.legal_link.ensures ∙ sym (if_true _ _ _ (eq-eqb _ _ c.if-entry-i.false))

-- `paging::page` meets its contract: the figures and then the places of tables that are fit.
use mathlib.Core.Path.{sym, ◌∙◌}
use Rattle.slices.proofs.Putting.{put_then}
use Rattle.meter.proofs.Refusals.{fit-metered}
use Rattle.paging.specs.Page.{page_of, page_text}
use Rattle.ground.proofs.Clauses.{heard_answer_out, told_answer_out}
use Rattle.paging.proofs.page.Goals as goal

pub returns-then-not-is_fit : goal.returns-then-not-is_fit
unfolding page_text
returns-then-not-is_fit c =
    told_answer_out (rw (sym c.is_fit.ensures ∙ c.if-not-is_fit.true, ← c.number.ensures) (heard_answer_out c.put_refused.ensures))

pub put_figures-then-requires : goal.put_figures-then-requires
put_figures-then-requires c =
    (fit-metered _ _ _ (sym c.is_fit.ensures ∙ c.if-not-is_fit.false)).long

pub put_places-requires : goal.put_places-requires
put_places-requires c =
    (fit-metered _ _ _ (sym c.is_fit.ensures ∙ c.if-not-is_fit.false)).long

pub returns : goal.returns
unfolding page_text page_of
returns c =
    told_answer_out (rw (sym c.is_fit.ensures ∙ c.if-not-is_fit.false)
    (put_then _ _ _ _ (heard_answer_out c.put_figures-then.ensures) (heard_answer_out c.put_places.ensures)))

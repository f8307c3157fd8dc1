-- `paging::put_figures` meets its contract: the lines of the figures, one behind the other.
use Rattle.slices.proofs.Putting.{put_as, put_then}
use Rattle.texts.specs.Texts.{held_word, delivered_word, dropped_word}
use Rattle.meter.specs.declared.table.Figure.TheVariants.{Entered, Delivered, Dropped, Held, Frames}
use Rattle.paging.specs.Page.{figures_text, entered_word, frames_word}
use Rattle.paging.proofs.Paged.{figure_read}
use Rattle.ground.proofs.Clauses.{heard_answer_out, told_answer_out}
use Rattle.paging.proofs.put_figures.Goals as goal

pub returns : goal.returns
unfolding figures_text
returns c =
    let meter = c.args.meter.now in
    let long = c.requires in
    told_answer_out (put_then _ _ _ _
    (put_then _ _ _ _
    (put_then _ _ _ _
    (put_then _ _ _ _
    (put_as _ _ (figure_read meter long Entered entered_word c.figure_in.ensures)
    (heard_answer_out c.put_figure-then.ensures))
    (put_as _ _ (figure_read meter long Delivered delivered_word c.figure_in-2.ensures)
    (heard_answer_out c.put_figure-then-2.ensures)))
    (put_as _ _ (figure_read meter long Dropped dropped_word c.figure_in-3.ensures)
    (heard_answer_out c.put_figure-then-3.ensures)))
    (put_as _ _ (figure_read meter long Held held_word c.figure_in-4.ensures)
    (heard_answer_out c.put_figure-then-4.ensures)))
    (put_as _ _ (figure_read meter long Frames frames_word c.figure_in-5.ensures)
    (heard_answer_out c.put_figure.ensures)))

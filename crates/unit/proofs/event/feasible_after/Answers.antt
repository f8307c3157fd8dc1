-- `unit::event::feasible_after` meets its contract: the pieces come to the rules' feasible distances.
use mathlib.Core.Bool.{◌&&◌}
use mathlib.Core.Path.{◌≡◌, ◌∙◌}
use Rattle.rules.specs.Event.{is_alone}
use Rattle.state.specs.Holding.{unit_of}
use Rattle.unit.proofs.Composed.{distances_counted, feasible_composed}
use Rattle.unit.proofs.event.feasible_after.Goals as goal
use Rattle.unit.proofs.event.feasible_after.Goals.{then-changed, else-changed}

pub returns : goal.returns
returns c =
    let unit = c.args.unit in
    let left : c.if-changed.way' ≡ c.args.changed && is_alone (unit_of unit) =
    elim c.if-changed.branch [
      | then-changed w ↦ rw w.if-changed.true (w.way'-is ∙ w.is_alone.ensures)
      | else-changed w ↦ rw w.if-changed.false (w.way'-is ∙ w.if-changed.false)
    ] in
    feasible_composed unit c.args.was _ c.requires.1 c.requires.2 left
    c.way-how.ensures
    (distances_counted unit c.requires.0 (unit_of unit).tree c.distances.ensures)
    (distances_counted unit c.requires.0 _ c.distances-2.ensures)
    c.new_feasible.ensures

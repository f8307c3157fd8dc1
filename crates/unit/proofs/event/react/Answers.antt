-- `unit::event::react` meets its contract: the pieces, composed, are steps B to F.
use mathlib.Core.Bool.{◌&&◌}
use mathlib.Core.Path.{◌≡◌, ◌∙◌}
use Rattle.std.specs.Prelude.{unwrap_or}
use Rattle.rules.specs.Event.{changed, new_tree}
use Rattle.rules.specs.Tables.{laid_row}
use Rattle.state.specs.Holding.{unit_of}
use Rattle.unit.proofs.Composed.{through-of, sets_of, tree_composed, tree_rooted, composed, buffer_composed}
use Rattle.unit.proofs.HeldFit.{held_high, active_held}
use Rattle.unit.proofs.event.react.Goals as goal
use Rattle.unit.proofs.event.react.Goals.{then-was, else-was, After-new_tree-tree}

-- The new tree, from whether it is kept.
tree_is : (c : After-new_tree-tree) → c.new_tree-tree.result ≡ laid_row (new_tree (unit_of c.args.unit) c.args.was)
tree_is c =
    let kept : c.if-was.new_tree ≡ c.args.was && c.is_active-active.result =
    elim c.if-was.branch [
      | then-was w ↦ rw w.if-was.true w.new_tree-is
      | else-was w ↦ rw w.if-was.false (w.new_tree-is ∙ w.if-was.false)
    ] in
    tree_composed c.args.unit c.requires.0 c.args.was (active_held c.requires.0 c.is_active-active.ensures) kept
    c.new_tree-tree.ensures

pub new_tree-tree-requires : goal.new_tree-tree-requires
new_tree-tree-requires c =
    (c.requires.0, through-of c.args.unit c.requires.0 c.through_neighbours-through.ensures)

pub is_changed-changed-requires : goal.is_changed-changed-requires
is_changed-changed-requires c = held_high c.requires.0

pub feasible_after-feasible-requires : goal.feasible_after-feasible-requires
unfolding changed
feasible_after-feasible-requires c =
    (held_high c.requires.0, active_held c.requires.0 c.is_active-active.ensures, c.is_changed-changed.ensures)

pub new_awaited-awaited-requires : goal.new_awaited-awaited-requires
new_awaited-awaited-requires c = held_high c.requires.0

pub send-used-requires : goal.send-used-requires
unfolding changed
send-used-requires c =
    record {
      fit = c.requires.0;
      rooted =
          tree_rooted c.args.unit c.requires.0 c.args.was _ (tree_is (goal.at.send-used-requires c).After-new_tree-tree);
      tells = c.is_changed-changed.ensures;
      other = c.requires.1;
      fits = c.requires.2;
    }

pub returns : goal.returns
unfolding changed
returns c =
    let unit = c.args.unit in
    let was = c.args.was in
    let new = unwrap_or c.args.new unit.count in
    let owed = unwrap_or c.args.owed unit.count in
    let fit = c.requires.0 in
    let tree = tree_is (goal.at.returns c).After-new_tree-tree in
    record {
      reacted =
          composed unit was new owed fit c.new_tree-tree.result tree
          (through-of unit fit c.through_neighbours-through.ensures)
          c.is_changed-changed.ensures
          c.new_awaited-awaited.ensures
          c.feasible_after-feasible.ensures
          (sets_of unit fit
          c.through_neighbours-through.result
          c.feasible_after-feasible.result
          c.sets_over-successors.ensures)
          c.send-used.ensures.answer;
      short = c.send-used.ensures.short;
      sent = buffer_composed unit was new owed fit c.new_tree-tree.result tree c.args.out.now c.send-used.ensures.laid;
    }

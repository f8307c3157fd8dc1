-- `fitness::fit::Measured::fit_table` meets its contract: its tests are the definition's.
use Prim.Native.Nat.{◌*◌}
use mathlib.Core.Bool.{◌&&◌}
use mathlib.Core.Path.{◌≡◌, refl, sym, ap, ◌∙◌}
use lib.Dec.{eqb}
use Rattle.ground.specs.Rows.{at}
use Rattle.rules.specs.Tables.{unit_words, part, fit_unit_table}
use Rattle.slices.proofs.Stretches.{lent}
use Rattle.fitness.specs.PartsFit.{fit_table_at}
use Rattle.fitness.proofs.fit.Measured.fit_table.Goals as goal
use Rattle.fitness.proofs.fit.Measured.fit_table.Goals.{Joined-is_fit, then-is_fit, else-is_fit}

-- The first two tests.
joined : (c : Joined-is_fit)
    → fit_unit_table (part c.args.self.now.words.now (c.args.i * unit_words) unit_words) && eqb (at c.args.self.now.words.now (c.args.i * unit_words)) c.args.self.now.count
    ≡ c.if-is_fit.value
joined c =
    let args = c.args in
    let tested : fit_unit_table (part args.self.now.words.now (args.i * unit_words) unit_words) ≡ c.is_fit.result =
    sym (c.is_fit.ensures ∙ ap fit_unit_table (lent args.self.now.words.now (args.i * unit_words) unit_words refl)) in
    elim c.if-is_fit.branch [
      | then-is_fit w ↦ rw (tested ∙ w.if-is_fit.true) (sym w.value-is)
      | else-is_fit w ↦ rw (tested ∙ w.if-is_fit.false) (sym (w.value-is ∙ w.if-is_fit.false))
    ]

pub returns-then-self-from : goal.returns-then-self-from
unfolding fit_table_at
returns-then-self-from c = sym (rw (joined (goal.at.returns-then-self-from c).Joined-is_fit ∙ c.if-self-from.true))

pub returns-else-self-from : goal.returns-else-self-from
unfolding fit_table_at
returns-else-self-from c =
    c.if-self-from.false
    ∙ sym (rw (joined (goal.at.returns-else-self-from c).Joined-is_fit ∙ c.if-self-from.false))

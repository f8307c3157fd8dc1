-- `lines::word_end` meets its contract: the chain finds the definition's place.
use native.Mathlib.Omega.{arith}
use mathlib.Core.Path.{◌≡◌, ◌∙◌}
use borrow.Author.Rules.{rules}
use borrow.Author.Tests.{tests}
use lib.Dec.{eqb}
use Rattle.ground.specs.Bytes.{space}
use Rattle.ground.proofs.Chains.{position_or_end}
use Rattle.lines.specs.Words.{word_end}
use Rattle.lines.proofs.Words.{end_inside}
use Rattle.lines.proofs.word_end.Goals as goal

pub returns : goal.returns
unfolding word_end
returns c =
    let line = c.args.line.now in
    let found : c.unwrap_or.result ≡ word_end line =
    c.unwrap_or.ensures
    ∙ position_or_end (λ byte. eqb byte space) line _ _ _ c.position.ensures.ran (search rules) (λ x b q k. search (rules, tests)) in
    record { end = found; inside = omega (arith, found, end_inside line) }

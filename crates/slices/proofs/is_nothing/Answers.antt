-- `slices::is_nothing` meets its contract.
use Rattle.slices.proofs.Greatest.{greatest_more, greatest_all}
use Rattle.slices.proofs.is_nothing.Goals as goal

pub loop-number-preserved : goal.loop-number-preserved
loop-number-preserved g c =
    let here = c.loop-number in
    greatest_more g.T.Ord.cmp c.args.numbers.now here.number-index here.most c.loop-number-test.true c.number-item.is
    c.max-most.ensures here.invariant

pub returns : goal.returns
returns g c =
    let here = c.loop-number in
    let numbers = c.args.numbers.now in
    let all = greatest_all g.T.Ord.cmp numbers here.number-index here.most c.loop-number-test.false here.invariant in
    rw (c.eq.ensures, all, c.zero.ensures) (g.met.T.Number.greatest_says numbers)

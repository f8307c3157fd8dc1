-- `session::take_line` meets its contract. The invariant: what is taken from here is what was to be taken.
use native.Mathlib.Omega.{arith}
use mathlib.Core.Path.{◌≡◌, refl, sym, ◌∙◌}
use borrow.Author.Rules.{rules}
use Rattle.session.proofs.Taking.{taken_none, taken_newline, taken_more, taken_told}
use Rattle.ground.proofs.Clauses.{heard_answer_out, told_held_place_whole_line}
use Rattle.session.proofs.take_line.Goals as goal

pub loop-place-init : goal.loop-place-init
loop-place-init c = (refl, refl, omega arith)

pub returns-then-byte-eq10 : goal.returns-then-byte-eq10
returns-then-byte-eq10 c =
    let here = c.loop-place in
    told_held_place_whole_line (taken_told (sym (taken_newline _ _ here.held here.place (search rules) c.if-byte-eq10.true) ∙ here.invariant.1))

pub loop-place-preserved : goal.loop-place-preserved
loop-place-preserved c =
    let here = c.loop-place in (
      search rules,
      taken_more _ _ here.held here.place (search rules) c.if-byte-eq10.false
          (heard_answer_out c.put_byte-held.ensures)
          ∙ here.invariant.1,
      omega (arith, c.loop-place-test.true),
    )

pub returns : goal.returns
returns c =
    let here = c.loop-place in
    let last : c.max.result ≡ here.place = omega (arith, here.invariant.2) in
    rw last
    (told_held_place_whole_line (taken_told (sym (taken_none _ _ here.held here.place (search rules)) ∙ here.invariant.1)))

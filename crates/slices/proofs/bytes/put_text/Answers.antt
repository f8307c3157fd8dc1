-- `slices::bytes::put_text` meets its contract. The invariant: the bytes of the text so far are put.
use native.Mathlib.Numerals.{add-one}
use native.Mathlib.Omega.{arith}
use mathlib.Core.Path.{◌≡◌, refl}
use borrow.Author.Rules.{rules}
use lib.ListN.{length}
use lib.Seq.{take-suc, take-length}
use Rattle.slices.proofs.Putting.{put_none, put_then}
use Rattle.ground.proofs.Clauses.{heard_answer_out, told_answer_out}
use Rattle.slices.proofs.bytes.put_text.Goals as goal

pub loop-byte-init : goal.loop-byte-init
loop-byte-init c = (refl, put_none _ _)

pub loop-byte-preserved : goal.loop-byte-preserved
loop-byte-preserved c =
    let args = c.args in
    let more = take-suc args.text.now c.loop-byte.byte-index 0 (omega arith) in
    (search rules, rw (add-one, more) (put_then _ _ _ _ c.loop-byte.invariant.1 (heard_answer_out c.put_byte-then.ensures)))

pub shape_of-out : goal.shape_of-out
shape_of-out c = c.loop-byte.invariant.0

pub returns : goal.returns
returns c =
    let here = c.loop-byte in
    let text = c.args.text.now in
    let all : here.byte-index ≡ length text = omega arith in
    told_answer_out (rw (all, take-length) at here.invariant.1)

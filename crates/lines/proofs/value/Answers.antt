-- `lines::value` meets its contract. The invariant: `number` is that of the digits before `i`.
use native.Mathlib.Numerals.{add-one}
use native.Mathlib.Omega.{arith}
use mathlib.Core.Path.{◌≡◌, sym}
use lib.ListN.{length}
use Rattle.lines.proofs.Decimals.{value_none, value_more, decimal_digit, decimal_step}
use Rattle.lines.proofs.value.Goals as goal

pub loop-byte-init : goal.loop-byte-init
loop-byte-init c = sym (value_none _)

pub overflow_mul-number : goal.overflow_mul-number
overflow_mul-number c =
    omega (arith, decimal_step c.args.word.now c.requires c.loop-byte.byte-index c.loop-byte-test.true)

pub overflow_sub-number : goal.overflow_sub-number
overflow_sub-number c =
    (decimal_digit _ c.requires c.loop-byte.byte-index c.loop-byte-test.true).0

pub overflow_cast-number : goal.overflow_cast-number
overflow_cast-number c =
    omega (arith, decimal_step c.args.word.now c.requires c.loop-byte.byte-index c.loop-byte-test.true)

pub overflow_add-number : goal.overflow_add-number
overflow_add-number c =
    omega (arith, decimal_step c.args.word.now c.requires c.loop-byte.byte-index c.loop-byte-test.true)

pub loop-byte-preserved : goal.loop-byte-preserved
loop-byte-preserved c =
    let here = c.loop-byte in
    rw (add-one here.byte-index, here.invariant) (sym (value_more _ here.byte-index))

pub returns : goal.returns
returns c =
    let all : c.loop-byte.byte-index ≡ length c.args.word.now = omega arith in
    rw (← all) c.loop-byte.invariant

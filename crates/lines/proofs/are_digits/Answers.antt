-- `lines::are_digits` meets its contract: the chain asks the definition's test of every byte.
use Prim.Native.Nat.compare
use mathlib.Core.Bool.{◌&&◌}
use mathlib.Core.Path.{◌≡◌, sym, ap, ◌∙◌}
use lib.Dec.{leb, is_le}
use Rattle.ground.specs.Bytes.{digit_zero}
use Prim.Native.Nat.{ℕ}
use borrow.Author.Rules.{rules}
use borrow.Author.Tests.{tests}
use Rattle.std.specs.Char.{is_ascii_digit}
use Rattle.ground.proofs.Chains.{all_numbers}
use Rattle.lines.specs.Words.{is_digit}
use Rattle.lines.proofs.are_digits.Goals as goal

-- The library's test of a digit is the rules'.
ascii_digit : (c : ℕ) → is_ascii_digit c ≡ is_digit c
ascii_digit c = ap (λ o. leb digit_zero c && is_le o) (sym (compare.suc-suc c 57))

pub returns : goal.returns
returns c =
    all_numbers is_digit c.args.word.now _ _ _ c.all.ensures.ran (search rules)
    (λ x b q k. let told : b ≡ is_ascii_digit x.now = search (rules, tests) in (search rules, told ∙ ascii_digit x.now))

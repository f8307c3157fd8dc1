-- No command is longer than `up` with its four decimals, so a line is the command that its first bytes are, if they are
-- more than that.
use Prim.Native.Nat.{ℕ, zero, suc, ◌+◌, ◌*◌, ◌≤◌, ◌<◌}
use native.Mathlib.Omega.{arith}
use mathlib.Core.Bool.{Bool, true, false}
use mathlib.Core.List.{List}
use mathlib.Core.Logic.{⊎_elim}
use mathlib.Core.Path.{◌≡◌, refl, sym, ap, ◌∙◌}
use borrow.Author.Tests.{eqb-true}
use lib.ListN.{length, take, drop, length-take, length-drop}
use lib.Seq.{take_all}
use Rattle.std.specs.Prelude.{if◌then◌else◌}
use Rattle.ground.proofs.Lists.{parts}
use Rattle.ground.proofs.Rows.{same_eq}
use Rattle.ground.proofs.Tests.{less_or_not, not_yes}
use Rattle.lines.specs.Commands.{is_arguments, is_spelled, longest_command, meter_command_of, command_of}
use Rattle.lines.specs.Words.{word_end, first_word, after_word, digit_limit}
use Rattle.lines.specs.Words.{units_name, up_name, cost_name, down_name, deliver_name, show_name}
use Rattle.lines.specs.Words.{enter_name, move_name, drop_name, page_name}
use Rattle.lines.specs.declared.Command.TheVariants.{Bad}
use Rattle.lines.proofs.Decimals.{decimal_short}
use Rattle.lines.proofs.Words.{end_inside}

-- A line is its first word and what follows it.
word_parts : (line : List ℕ) → length (first_word line) + length (after_word line) ≡ length line
word_parts line =
    omega (arith, length-take (word_end line) line, length-drop (word_end line) line, end_inside line)

-- Decimals that follow a word, each after a space.
arguments_most : (k : ℕ) (rest : List ℕ) → is_arguments k rest ≡ true → length rest ≤ k * (1 + digit_limit)
unfolding is_arguments
arguments_most zero rest t = omega (arith, eqb-true (length rest) 0 t)
arguments_most (suc k) rest t =
    omega (
      arith,
      length-drop 1 rest,
      word_parts (drop 1 rest),
      decimal_short (first_word (drop 1 rest)) (search parts),
      arguments_most k (after_word (drop 1 rest)) (search parts),
    )

-- A name and its decimals.
spelled_most : (name : List ℕ) (k : ℕ) (line : List ℕ) → is_spelled name k line ≡ true
    → length line ≤ length name + k * (1 + digit_limit)
spelled_most name k line t =
    let named : length (first_word line) ≡ length name = ap length (same_eq (first_word line) name (search parts)) in
    omega (arith, word_parts line, arguments_most k (after_word line) (search parts))

module _ (line : List ℕ) (long : longest_command < length line) where
  -- A longer line is not spelled as a command is.
  not_spelled : (name : List ℕ) (k : ℕ) → length name + k * (1 + digit_limit) ≤ longest_command → is_spelled name k line ≡ false
  not_spelled name k h = not_yes (is_spelled name k line) (λ t. omega (arith, spelled_most name k line t))

  -- Nor as one of a meter.
  long_none : (metered : Bool) → (if metered then meter_command_of line else Bad) ≡ Bad
  unfolding meter_command_of
  long_none false = refl
  long_none true =
      simp (
        not_spelled enter_name 3 (omega arith),
        not_spelled move_name 2 (omega arith),
        not_spelled drop_name 1 (omega arith),
        not_spelled page_name 0 (omega arith),
      )

  -- So it is a bad line.
  pub long_bad : (metered : Bool) → command_of metered line ≡ Bad
  unfolding command_of
  long_bad metered =
      simp (
        not_spelled units_name 1 (omega arith),
        not_spelled up_name 4 (omega arith),
        not_spelled cost_name 3 (omega arith),
        not_spelled down_name 2 (omega arith),
        not_spelled deliver_name 2 (omega arith),
        not_spelled show_name 0 (omega arith),
        long_none metered,
      )

-- A line is the command that its first bytes are, where more of them are kept than the longest command has.
pub kept_command : (room : ℕ) → longest_command < room → (metered : Bool) (line : List ℕ)
    → command_of metered (take room line) ≡ command_of metered line
kept_command room h metered line =
    ⊎_elim
    (λ l. long_bad (take room line) (omega (arith, length-take room line)) metered ∙ sym (long_bad line (omega arith) metered))
    (λ l. ap (command_of metered) (take_all room line l))
    (less_or_not room (length line))

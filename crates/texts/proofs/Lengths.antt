-- How many bytes lines have at most: each has room.
use Prim.Native.Nat.{ℕ, zero, suc, ◌+◌, ◌-◌, ◌*◌, ◌≤◌, ◌<◌}
use native.Mathlib.Omega.{arith}
use mathlib.Core.Bool.{Bool}
use mathlib.Core.List.{List, [], ◌∷◌, ◌++◌}
use lib.Dec.{eqb}
use lib.ListN.{length, length-append}
use Rattle.ground.specs.Bytes.{newline, space, comma, hyphen}
use Rattle.std.specs.Prelude.{if◌then◌else◌}
use Rattle.ground.specs.Limits.{far, unit_limit}
use Rattle.ground.proofs.Choices.{by_choice}
use Rattle.texts.specs.Printed.{refused_line, held_line, figure_line, line_room}
use Rattle.texts.specs.Printed.{state_text, state_line, distance_text, joined_to, successors_text, pair_line}
use Rattle.texts.specs.Texts.{decimal_room, decimal_of, long_room, long_decimal_of}
use Rattle.texts.specs.Texts.{refused_word, unit_word, active_word, passive_word, held_word}
use Rattle.texts.proofs.Digits.{digits_count, digits_few}

-- A decimal has room for its digits.
pub decimal_most : (number : ℕ) → length (decimal_of number) ≤ decimal_room
decimal_most number = (digits_count (decimal_room - 1) number).1

-- That of a unit has at most two digits, and a comma may come before them.
abbrev unit_digits : ℕ
unit_digits = 2

abbrev member_room : ℕ
member_room = 1 + unit_digits

unit_most : (k : ℕ) → k < unit_limit → length (decimal_of k) ≤ unit_digits
unit_most k h = digits_few (decimal_room - 1) (unit_digits - 1) k (omega arith)

-- A distance has at most as many as a decimal.
distance_most : (distance : ℕ) → length (distance_text distance) ≤ decimal_room
distance_most distance =
    by_choice (λ (text : List ℕ). length text ≤ decimal_room) (eqb distance far) (hyphen ∷ []) (decimal_of distance)
    (λ t. omega arith)
    (λ t. decimal_most distance)

-- Successors below n.
joined_few : (n : ℕ) (p : ℕ → Bool) → n ≤ unit_limit → length (joined_to n p) ≤ member_room * n
unfolding joined_to
joined_few zero p h = omega arith
joined_few (suc k) p h =
    let before = joined_to k p in
    let between = if eqb (length before) 0 then [] else comma ∷ [] in
    by_choice (λ (text : List ℕ). length text ≤ member_room * suc k) (p k) (before ++ between ++ decimal_of k) before
    (λ t.
    omega (
      arith,
      length-append (before ++ between) (decimal_of k),
      length-append before between,
      by_choice (λ (text : List ℕ). length text ≤ 1) (eqb (length before) 0) [] (comma ∷ []) (λ u. omega arith) (λ u. omega arith),
      joined_few k p (omega arith),
      unit_most k h,
    ))
    (λ t. omega (arith, joined_few k p (omega arith)))

-- So together no more than that for each unit.
successors_most : (n : ℕ) (p : ℕ → Bool) → n ≤ unit_limit → length (successors_text n p) ≤ member_room * unit_limit
successors_most n p h =
    by_choice (λ (text : List ℕ). length text ≤ member_room * unit_limit) (eqb (length (joined_to n p)) 0) (hyphen ∷ []) (joined_to n p)
    (λ t. omega arith)
    (λ t. omega (arith, joined_few n p h))

-- The line of a unit and a destination.
pub pair_most : (n i j distance feasible : ℕ) (p : ℕ → Bool) → n ≤ unit_limit
    → length (pair_line n i j distance feasible p) ≤ line_room
pair_most n i j distance feasible p h =
    let ends = decimal_of i ++ (space ∷ decimal_of j) in
    let first = ends ++ (space ∷ distance_text distance) in
    let second = first ++ (space ∷ distance_text feasible) in
    let third = second ++ (space ∷ successors_text n p) in
    omega (
      arith,
      length-append third (newline ∷ []),
      length-append second (space ∷ successors_text n p),
      length-append first (space ∷ distance_text feasible),
      length-append ends (space ∷ distance_text distance),
      length-append (decimal_of i) (space ∷ decimal_of j),
      decimal_most i,
      decimal_most j,
      distance_most distance,
      distance_most feasible,
      successors_most n p h,
    )

-- The line of a unit's state.
pub state_most : (i : ℕ) (active : Bool) → length (state_line i active) ≤ line_room
state_most i active =
    let named = unit_word ++ (space ∷ decimal_of i) in
    omega (
      arith,
      length-append (named ++ state_text active) (newline ∷ []),
      length-append named (state_text active),
      decimal_most i,
      by_choice (λ (text : List ℕ). length text ≤ length passive_word) active active_word passive_word (λ t. omega arith) (λ t. omega arith),
    )

-- The line of a refusal.
pub refused_most : (number : ℕ) → length (refused_line number) ≤ line_room
refused_most number =
    omega (arith, length-append (refused_word ++ (space ∷ decimal_of number)) (newline ∷ []), decimal_most number)

-- The line of a frame that is held, and that of a figure.
pub held_most : (place : ℕ) → length (held_line place) ≤ line_room
held_most place = omega (arith, length-append (held_word ++ (space ∷ decimal_of place)) (newline ∷ []), decimal_most place)

pub figure_most : (name : List ℕ) (value : ℕ) → length (figure_line name value) ≤ length name + 2 + long_room
figure_most name value =
    omega (
      arith,
      length-append (name ++ (space ∷ long_decimal_of value)) (newline ∷ []),
      length-append name (space ∷ long_decimal_of value),
      digits_count (long_room - 1) value,
    )

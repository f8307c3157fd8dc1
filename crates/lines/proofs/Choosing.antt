-- The command of a line from its first word and the decimals found behind it: one law for a name and its number of decimals.
use Prim.Native.Nat.{ℕ, ◌-◌, ◌≤◌, ◌<◌}
use native.Mathlib.Omega.{arith}
use mathlib.Core.Bool.{Bool, true, false, ◌&&◌}
use mathlib.Core.List.{List}
use mathlib.Core.Path.{◌≡◌, refl, ◌∙◌}
use borrow.Author.Tests.{eqb-true}
use lib.Dec.{eqb}
use lib.ListN.{length, take, drop}
use Rattle.std.specs.Prelude.{if◌then◌else◌}
use Rattle.ground.specs.Rows.{at, same}
use Rattle.ground.proofs.Tests.{both, and_false}
use Rattle.lines.specs.Commands.{is_arguments, argument, is_spelled, meter_command_of, command_of}
use Rattle.lines.specs.Following.{argument_limit, Told, either_of, meter_chosen, others_chosen, chosen}
use Rattle.lines.specs.Words.{word_end, first_word, after_word, units_name, up_name, cost_name, down_name, deliver_name, show_name}
use Rattle.lines.specs.Words.{enter_name, move_name, drop_name, page_name}
use Rattle.lines.specs.declared.Command.{Command}
use Rattle.lines.specs.declared.Command.TheVariants.{Bad}
use Rattle.lines.specs.declared.Found.{Found}
use Rattle.lines.proofs.Words.{first_lent, after_lent}

-- A choice by one test, between alike branches.
choice_alike : {A : Type 0} (t : Bool) {a b x y : A} → (t ≡ true → a ≡ b) → x ≡ y → (if t then a else x) ≡ (if t then b else y)
choice_alike true p q = p refl
choice_alike false p q = q

-- What is chosen by a word and by what is found: of a meter's commands where there is one, and of those that every script has.
abbrev others_by : (word : List ℕ) (found : Found) (metered : Bool) → Command
others_by word found metered =
    let number = at found.list in
    others_chosen word found.count (number 0) (number 1) (number 2) metered

abbrev chosen_by : (word : List ℕ) (found : Found) (other : Command) → Command
chosen_by word found other =
    let number = at found.list in
    chosen word found.count (number 0) (number 1) (number 2) (number 3) other

module _ (line : List ℕ) (found : Found) (tells : Told (after_word line) found) where
  -- The name is tried, and otherwise the others: alike by the line and by what is found.
  tried : (name : List ℕ) (k : ℕ) → k ≤ argument_limit → {a b x y : Command}
      → (((i : ℕ) → i < k → at found.list i ≡ argument i (after_word line)) → b ≡ a) → y ≡ x
      → either_of (first_word line) found.count name k b y ≡ (if is_spelled name k line then a else x)
  unfolding either_of
  tried name k h p q =
      rw (tells.counted k h)
      (choice_alike (same (first_word line) name && eqb found.count k)
      (λ t.
      let all : found.count ≡ k = eqb-true found.count k (both (same (first_word line) name) (eqb found.count k) t).1 in
      p (λ i l. tells.listed i (omega arith) (omega arith)))
      q)

  -- What is chosen of a meter's commands is that of the line.
  chosen_others : (metered : Bool)
      → others_by (first_word line) found metered ≡ (if metered then meter_command_of line else Bad)
  unfolding others_chosen meter_chosen meter_command_of
  chosen_others metered =
      choice_alike metered
      (λ t.
      tried enter_name 3 (omega arith) (λ list. rw (list 0 (omega arith), list 1 (omega arith), list 2 (omega arith)))
      (tried move_name 2 (omega arith) (λ list. rw (list 0 (omega arith), list 1 (omega arith)))
      (tried drop_name 1 (omega arith) (λ list. rw (list 0 (omega arith)))
      (tried page_name 0 (omega arith) (λ list. refl) refl))))
      refl

  -- What is chosen is the command of the line.
  chosen_command : (metered : Bool) (other : Command) → other ≡ others_by (first_word line) found metered
      → chosen_by (first_word line) found other ≡ command_of metered line
  unfolding chosen command_of
  chosen_command metered other is =
      tried units_name 1 (omega arith) (λ list. rw (list 0 (omega arith)))
      (tried up_name 4 (omega arith)
      (λ list. rw (list 0 (omega arith), list 1 (omega arith), list 2 (omega arith), list 3 (omega arith)))
      (tried cost_name 3 (omega arith) (λ list. rw (list 0 (omega arith), list 1 (omega arith), list 2 (omega arith)))
      (tried down_name 2 (omega arith) (λ list. rw (list 0 (omega arith), list 1 (omega arith)))
      (tried deliver_name 2 (omega arith) (λ list. rw (list 0 (omega arith), list 1 (omega arith)))
      (tried show_name 0 (omega arith) (λ list. refl) (is ∙ chosen_others metered))))))

-- So is what is chosen by the word and by what is found, as they are lent.
pub chosen_lent : (line : List ℕ) (end : ℕ) (metered : Bool) {found : Found} {other command : Command} → end ≡ word_end line
    → Told (take (length line - end) (drop end line)) found
    → other ≡ others_by (take end line) found metered
    → command ≡ chosen_by (take end line) found other
    → command ≡ command_of metered line
chosen_lent line end metered {found} {other} e tells others is =
    let first = first_lent line end e in
    is
    ∙ rw first (chosen_command line found (rw (after_lent line end e) at tells) metered other (rw first at others))

-- Where what follows the word is no decimals that a command has, the line is none.
pub no_command : (line : List ℕ) (end : ℕ) (metered : Bool) → end ≡ word_end line
    → ((k : ℕ) → k ≤ argument_limit → is_arguments k (take (length line - end) (drop end line)) ≡ false)
    → Bad ≡ command_of metered line
unfolding command_of meter_command_of
no_command line end metered e none = go metered
  where
    spelled : (name : List ℕ) (k : ℕ) → k ≤ argument_limit → is_spelled name k line ≡ false
    spelled name k h =
        and_false (same (first_word line) name) (is_arguments k (after_word line)) (rw (after_lent line end e) at (none k h))

    go : (metered : Bool) → Bad ≡ command_of metered line
    go true =
        simp (spelled units_name 1 (omega arith), spelled up_name 4 (omega arith), spelled cost_name 3 (omega arith), spelled down_name 2 (omega arith), spelled deliver_name 2 (omega arith), spelled show_name 0 (omega arith), spelled enter_name 3 (omega arith), spelled move_name 2 (omega arith), spelled drop_name 1 (omega arith), spelled page_name 0 (omega arith))
    go false =
        simp (spelled units_name 1 (omega arith), spelled up_name 4 (omega arith), spelled cost_name 3 (omega arith), spelled down_name 2 (omega arith), spelled deliver_name 2 (omega arith), spelled show_name 0 (omega arith))

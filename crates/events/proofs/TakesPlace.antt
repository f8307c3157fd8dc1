-- What an event answers and leaves, by whether its messages were found to have room.
use Prim.Native.Nat.{ℕ}
use mathlib.Core.Bool.{Bool, true, false, not, ◌&&◌}
use mathlib.Core.List.{List}
use mathlib.Core.Path.{◌≡◌, sym, ap, ◌∙◌}
use borrow.Author.Tests.{not-true, not-false}
use Rattle.ground.specs.Refusal.{answer_base}
use Rattle.ground.specs.Rows.{at}
use Rattle.ground.proofs.Tests.{if_true, if_false}
use Rattle.fitness.specs.UnitTables.{with_table}
use Rattle.events.specs.Happening.{finds_room, is_sent, popped_if, emptied_if, one_answer, one_words, one_bytes}
use Rattle.events.specs.Happening.{both_find, both_answer, both_words, both_bytes}
use Rattle.events.specs.declared.tell.Told.{Told}

module _ (words bytes : List ℕ) {count : ℕ} (counted : count ≡ at words 0) where
  -- An event at unit i.
  module _ (other i : ℕ) (told : Told) (pops : Bool) {found : Bool} (looked : found ≡ finds_room bytes count i told) where
    -- What was found is what the definitions ask.
    one_found : found ≡ finds_room bytes (at words 0) i told
    one_found = looked ∙ ap (λ (n : ℕ). finds_room bytes n i told) counted

    -- No room.
    pub one_refused : not found ≡ true
        → (13 ≡ one_answer words bytes i told)
        × ((words ≡ one_words words bytes i told) × (bytes ≡ one_bytes words bytes other i told pops))
    unfolding one_answer one_words one_bytes
    one_refused t =
        let none : finds_room bytes (at words 0) i told ≡ false = sym one_found ∙ not-true found t in
        (sym (if_false _ _ _ none), (sym (if_false _ _ _ none), sym (if_false _ _ _ none)))

    -- Room: the event takes place.
    pub one_happened : not found ≡ false → {held : List ℕ} → held ≡ popped_if pops bytes other i → {after left : List ℕ}
        → (after ≡ with_table words i told.table) × (left ≡ is_sent held count i told)
        → (answer_base ≡ one_answer words bytes i told)
        × ((after ≡ one_words words bytes i told) × (left ≡ one_bytes words bytes other i told pops))
    unfolding one_answer one_words one_bytes
    one_happened t {held} p done =
        let all : finds_room bytes (at words 0) i told ≡ true = sym one_found ∙ not-false found t in (
          sym (if_true _ _ _ all),
          (
            done.0 ∙ sym (if_true _ _ _ all),
            done.1
                ∙ ap (λ (n : ℕ). is_sent held n i told) counted
                ∙ ap (λ (bs : List ℕ). is_sent bs (at words 0) i told) p
                ∙ sym (if_true _ _ _ all),
          ),
        )

  -- An event at each of two units.
  module _ (a : ℕ) (one : Told) (b : ℕ) (two : Told) (clears : Bool) {found : Bool}
      (looked : found ≡ (finds_room bytes count a one && finds_room bytes count b two)) where
    -- What was found is what the definitions ask.
    both_found : found ≡ both_find words bytes a one b two
    both_found = looked ∙ ap (λ (n : ℕ). finds_room bytes n a one && finds_room bytes n b two) counted

    -- No room.
    pub both_refused : not found ≡ true
        → (13 ≡ both_answer words bytes a one b two)
        × ((words ≡ both_words words bytes a one b two) × (bytes ≡ both_bytes words bytes a one b two clears))
    unfolding both_answer both_words both_bytes
    both_refused t =
        let none : both_find words bytes a one b two ≡ false = sym both_found ∙ not-true found t in
        (sym (if_false _ _ _ none), (sym (if_false _ _ _ none), sym (if_false _ _ _ none)))

    -- Room: the events take place.
    pub both_happened : not found ≡ false → {held : List ℕ} → held ≡ emptied_if clears bytes a b → {mid left : List ℕ}
        → (mid ≡ with_table words a one.table) × (left ≡ is_sent held count a one) → {last kept : List ℕ}
        → (last ≡ with_table mid b two.table) × (kept ≡ is_sent left count b two)
        → (answer_base ≡ both_answer words bytes a one b two)
        × ((last ≡ both_words words bytes a one b two) × (kept ≡ both_bytes words bytes a one b two clears))
    unfolding both_answer both_words both_bytes
    both_happened t {held} p {mid} {left} first second =
        let all : both_find words bytes a one b two ≡ true = sym both_found ∙ not-false found t in (
          sym (if_true _ _ _ all),
          (
            second.0 ∙ ap (λ (ws : List ℕ). with_table ws b two.table) first.0 ∙ sym (if_true _ _ _ all),
            second.1
                ∙ ap (λ (bs : List ℕ). is_sent bs count b two) first.1
                ∙ ap (λ (n : ℕ). is_sent (is_sent held n a one) n b two) counted
                ∙ ap (λ (bs : List ℕ). is_sent (is_sent bs (at words 0) a one) (at words 0) b two) p
                ∙ sym (if_true _ _ _ all),
          ),
        )

-- `fitness::fit::are_parts_fit` meets its contract: each return is the definition, by the tests that led there.
use Prim.Native.Nat.{ℕ, ◌*◌, ◌≤◌}
use native.Mathlib.Omega.{arith}
use mathlib.Core.Bool.{Bool, true, ◌&&◌}
use mathlib.Core.List.{List}
use mathlib.Core.Path.{◌≡◌, sym, ap, ◌∙◌}
use borrow.Author.Tests.{eq-eqb, ne_eqb}
use lib.Dec.{eqb}
use lib.ListN.{length, drop}
use Rattle.ground.specs.Limits.{unit_limit, legal_count}
use Rattle.ground.specs.Rows.{at, every}
use Rattle.rules.specs.Tables.{unit_words, network_words, network_bytes, queue_at, queue_bytes}
use Rattle.ground.proofs.Limits.{count_legal, count_low, count_high}
use Rattle.ground.proofs.Parts.{to_end}
use Rattle.ground.proofs.Tests.{both_of}
use Rattle.slices.specs.Slices.{is_nothing}
use Rattle.fitness.specs.PartsFit.{fit_table_at, fit_sender, fit_parts}
use Rattle.fitness.proofs.fit.are_parts_fit.Goals as goal
use Rattle.fitness.proofs.fit.are_parts_fit.Goals.{Joined-fit_units, Joined-is_nothing, then-fit_units, else-fit_units, then-is_nothing, else-is_nothing}

-- The lengths and the count pass their tests.
counted : (words bytes : List ℕ) → length words ≡ network_words → length bytes ≡ network_bytes → 2 ≤ at words 0 → at words 0 ≤ unit_limit
    → eqb (length words) network_words && eqb (length bytes) network_bytes && legal_count (at words 0) ≡ true
counted words bytes long filled low high =
    both_of _ _ (both_of _ _ (eq-eqb _ network_words long) (eq-eqb _ network_bytes filled)) (count_legal (at words 0) low high)

-- Each unit's table is fit, and nothing stands after them.
abbrev units_fit : (words : List ℕ) → Bool
units_fit words =
    every (at words 0) (fit_table_at words (at words 0)) && is_nothing (drop (at words 0 * unit_words) words)

-- The tests of the units, and of what stands after them, are the definition's; so are those of the senders with them.
units_tested : (c : Joined-fit_units) → c.if-fit_units.value ≡ units_fit c.args.words.now
units_tested c =
    let words = c.args.words.now in
    elim c.if-fit_units.branch [
      | then-fit_units w ↦
          w.value-is
          ∙ w.is_nothing.ensures
          ∙ ap is_nothing (to_end words (at words 0 * unit_words))
          ∙ sym (rw (sym c.fit_units.ensures ∙ w.if-fit_units.true))
      | else-fit_units w ↦ w.value-is ∙ w.if-fit_units.false ∙ sym (rw (sym c.fit_units.ensures ∙ w.if-fit_units.false))
    ]

senders_tested : (c : Joined-is_nothing)
    → c.if-is_nothing.value ≡ units_fit c.args.words.now && every (at c.args.words.now 0) (fit_sender c.args.words.now c.args.queues.now (at c.args.words.now 0))
senders_tested c =
    let units = units_tested (goal.at.Joined-is_nothing c).Joined-fit_units in
    elim c.if-is_nothing.branch [
      | then-is_nothing w ↦
          w.value-is ∙ w.fit_senders.ensures ∙ sym (rw (sym units ∙ w.if-is_nothing.true))
      | else-is_nothing w ↦ w.value-is ∙ w.if-is_nothing.false ∙ sym (rw (sym units ∙ w.if-is_nothing.false))
    ]

pub returns-then-words-ne-NETWORK_WORDS : goal.returns-then-words-ne-NETWORK_WORDS
unfolding fit_parts
returns-then-words-ne-NETWORK_WORDS c = sym (rw (ne_eqb _ network_words c.if-words-ne-NETWORK_WORDS.true))

pub returns-then-queues-ne-NETWORK_BYTES : goal.returns-then-queues-ne-NETWORK_BYTES
unfolding fit_parts
returns-then-queues-ne-NETWORK_BYTES c =
    sym (rw (eq-eqb _ network_words c.if-words-ne-NETWORK_WORDS.false, ne_eqb _ network_bytes c.if-queues-ne-NETWORK_BYTES.true))

pub returns-then-words-lt2 : goal.returns-then-words-lt2
unfolding fit_parts
returns-then-words-lt2 c =
    sym (rw (eq-eqb _ network_words c.if-words-ne-NETWORK_WORDS.false, eq-eqb _ network_bytes c.if-queues-ne-NETWORK_BYTES.false, count_low _ c.if-words-lt2.true))

pub returns-then-words : goal.returns-then-words
unfolding fit_parts
returns-then-words c =
    sym (rw (eq-eqb _ network_words c.if-words-ne-NETWORK_WORDS.false, eq-eqb _ network_bytes c.if-queues-ne-NETWORK_BYTES.false, count_high _ c.if-words.true))

-- All that is tested before the bytes after the senders.
before : (c : Joined-is_nothing)
    → eqb (length c.args.words.now) network_words && eqb (length c.args.queues.now) network_bytes && legal_count (at c.args.words.now 0) ≡ true
before c =
    counted c.args.words.now c.args.queues.now c.if-words-ne-NETWORK_WORDS.false c.if-queues-ne-NETWORK_BYTES.false
    c.if-words-lt2.false c.if-words.false

pub returns-then-fit_senders : goal.returns-then-fit_senders
unfolding fit_parts
returns-then-fit_senders c =
    let words = c.args.words.now in
    let bytes = c.args.queues.now in
    let there = (goal.at.returns-then-fit_senders c).Joined-is_nothing in
    let same : at words 0 * (unit_limit * queue_bytes) ≡ queue_at (at words 0) 0 = omega arith in
    c.is_nothing-then-fit_senders.ensures
    ∙ ap is_nothing (to_end bytes (at words 0 * (unit_limit * queue_bytes)) ∙ ap (λ (k : ℕ). drop k bytes) same)
    ∙ sym (rw (before there, sym (senders_tested there) ∙ c.if-fit_senders.true))

pub returns-else-fit_senders : goal.returns-else-fit_senders
unfolding fit_parts
returns-else-fit_senders c =
    let there = (goal.at.returns-else-fit_senders c).Joined-is_nothing in
    c.if-fit_senders.false
    ∙ sym (rw (before there, sym (senders_tested there) ∙ c.if-fit_senders.false))

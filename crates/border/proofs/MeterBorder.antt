-- What a meter's calls and questions at the border come to: tables of another length are unfit; with the right lengths, what is
-- done with the numbers is what is done with the bytes.
use Prim.Native.Nat.{ℕ}
use mathlib.Core.Bool.{true, false}
use mathlib.Core.List.{List}
use mathlib.Core.Logic.{◌≢◌}
use mathlib.Core.Path.{◌≡◌, ap, ◌∙◌}
use borrow.Author.Tests.{eq-eqb, ne_eqb}
use lib.ListN.{length}
use Rattle.rules.specs.Hub.{hub_answer}
use Rattle.rules.specs.Tables.{bytes_of, words_of}
use Rattle.frames.specs.Meter.{MeterCall}
use Rattle.frames.specs.MeterTable.{meter_words, meter_answer, meter_after, fresh_meter_refusal, fresh_meter_table}
use Rattle.border.specs.MeterBytes.{meter_bytes, are_long, border_meter_call, border_meter, asked_of_meter}
use Rattle.border.specs.MeterBytes.{border_fresh_meter_refusal, fresh_meter_bytes}
use Rattle.border.specs.NetworkBytes.{units_bytes}

module _ (units meter : List ℕ) where
  -- One wrong length is enough, and the right ones are.
  wrong_units : length units ≢ units_bytes → are_long units meter ≡ false
  wrong_units h = rw (ne_eqb (length units) units_bytes h)

  wrong_meter : length units ≡ units_bytes → length meter ≢ meter_bytes → are_long units meter ≡ false
  wrong_meter h d = rw (eq-eqb (length units) units_bytes h, ne_eqb (length meter) meter_bytes d)

  both_right : length units ≡ units_bytes → length meter ≡ meter_bytes → are_long units meter ≡ true
  both_right h l = rw (eq-eqb (length units) units_bytes h, eq-eqb (length meter) meter_bytes l)

  -- A question.
  module _ (question : (words table : List ℕ) → ℕ) where
    pub units_unasked : length units ≢ units_bytes → 2 ≡ asked_of_meter units meter question
    units_unasked h = rw (wrong_units h)

    pub meter_unasked : length units ≡ units_bytes → length meter ≢ meter_bytes → 2 ≡ asked_of_meter units meter question
    meter_unasked h d = rw (wrong_meter h d)

    pub both_asked : {words table : List ℕ} {answer : ℕ} → length units ≡ units_bytes → length meter ≡ meter_bytes
        → words ≡ words_of units → table ≡ words_of meter → answer ≡ question words table → answer ≡ asked_of_meter units meter question
    both_asked h l read found e = rw (both_right h l, ← read, ← found) e

  -- A call leaves tables of another length as they came.
  module _ (queues : List ℕ) (call : MeterCall) where
    abbrev Refused : Type 0
    Refused = (2 ≡ border_meter_call units queues meter call) × (meter ≡ border_meter units queues meter call)

    pub units_refused : length units ≢ units_bytes → Refused
    unfolding border_meter_call border_meter
    units_refused h = (rw (wrong_units h), rw (wrong_units h))

    pub meter_refused : length units ≡ units_bytes → length meter ≢ meter_bytes → Refused
    unfolding border_meter_call border_meter
    meter_refused h d = (rw (wrong_meter h d), rw (wrong_meter h d))

    pub both_told : {words table after bytes : List ℕ} {answer : ℕ} → length units ≡ units_bytes → length meter ≡ meter_bytes
        → words ≡ words_of units → table ≡ words_of meter
        → (answer ≡ meter_answer words queues table call) × (after ≡ meter_after words queues table call)
        → bytes ≡ bytes_of after
        → (answer ≡ border_meter_call units queues meter call) × (bytes ≡ border_meter units queues meter call)
    unfolding border_meter_call border_meter
    both_told h l read found done laid = (
      rw (both_right h l, ← read, ← found) done.0,
      rw (both_right h l, ← read, ← found) (laid ∙ ap bytes_of done.1),
    )

-- The fresh meter.
module _ (meter : List ℕ) where
  pub fresh_meter_refused : length meter ≢ meter_bytes
      → (2 ≡ hub_answer (border_fresh_meter_refusal meter) 0) × (meter ≡ fresh_meter_bytes meter)
  unfolding fresh_meter_bytes
  fresh_meter_refused h = (rw (ne_eqb (length meter) meter_bytes h), rw (ne_eqb (length meter) meter_bytes h))

  pub fresh_meter_laid : length meter ≡ meter_bytes → (blank : List ℕ) {after bytes : List ℕ} {answer : ℕ} → length blank ≡ meter_words
      → (answer ≡ hub_answer (fresh_meter_refusal blank) 0) × (after ≡ fresh_meter_table blank)
      → bytes ≡ bytes_of after
      → (answer ≡ hub_answer (border_fresh_meter_refusal meter) 0) × (bytes ≡ fresh_meter_bytes meter)
  unfolding fresh_meter_bytes fresh_meter_table
  fresh_meter_laid h blank many done laid =
      let right = eq-eqb (length meter) meter_bytes h in
      let whole = eq-eqb (length blank) meter_words many in
      (rw right (rw whole at done.0), rw right (laid ∙ ap bytes_of (rw whole at done.1)))

-- What a network's calls and questions at the border come to: units' tables of another length are unfit; with the right length,
-- what is done with the numbers is what is done with the bytes.
use Prim.Native.Nat.{ℕ}
use mathlib.Core.Bool.{true, false}
use mathlib.Core.List.{List}
use mathlib.Core.Logic.{◌≢◌}
use mathlib.Core.Path.{◌≡◌, ap, ◌∙◌}
use borrow.Author.Tests.{eq-eqb, ne_eqb}
use lib.ListN.{length}
use Rattle.ground.specs.Limits.{legal_count}
use Rattle.rules.specs.Hub.{hub_answer}
use Rattle.rules.specs.Network.{Call}
use Rattle.rules.specs.NetworkTable.{network_answer, words_after, bytes_after, fresh_network_refusal, fresh_words, fresh_bytes, path_after}
use Rattle.rules.specs.Tables.{network_words, network_bytes, bytes_of, words_of}
use Rattle.border.specs.NetworkBytes.{units_bytes, border_call, border_units, border_queues, border_fresh_refusal, fresh_units_bytes, fresh_queues_bytes, border_path}

module _ (units queues : List ℕ) where
  -- A call leaves units' tables of another length, and the queues, as they came.
  pub wrong_units : (call : Call) → length units ≢ units_bytes
      → (2 ≡ border_call units queues call)
      × ((units ≡ border_units units queues call) × (queues ≡ border_queues units queues call))
  unfolding border_call border_units border_queues
  wrong_units call h =
      let other = ne_eqb (length units) units_bytes h in
      (rw other, (rw other, rw other))

  pub right_units : (call : Call) {words after bytes sent : List ℕ} {answer : ℕ} → length units ≡ units_bytes
      → words ≡ words_of units
      → (answer ≡ network_answer words queues call)
      × ((after ≡ words_after words queues call) × (sent ≡ bytes_after words queues call))
      → bytes ≡ bytes_of after
      → (answer ≡ border_call units queues call)
      × ((bytes ≡ border_units units queues call) × (sent ≡ border_queues units queues call))
  unfolding border_call border_units border_queues
  right_units call h read done laid =
      let right = eq-eqb (length units) units_bytes h in (
        rw (right, ← read) done.0,
        (rw (right, ← read) (laid ∙ ap bytes_of done.1.0), rw (right, ← read) done.1.1),
      )

  -- The fresh network: the count is looked at first, then the lengths.
  module _ (n : ℕ) where
    pub fresh_bad : legal_count n ≡ false
        → (1 ≡ hub_answer (border_fresh_refusal units queues n) 0)
        × ((units ≡ fresh_units_bytes units queues n) × (queues ≡ fresh_queues_bytes units queues n))
    unfolding fresh_units_bytes fresh_queues_bytes
    fresh_bad bad = (rw bad, (rw bad, rw bad))

    module _ (legal : legal_count n ≡ true) where
      pub fresh_other : length units ≢ units_bytes
          → (2 ≡ hub_answer (border_fresh_refusal units queues n) 0)
          × ((units ≡ fresh_units_bytes units queues n) × (queues ≡ fresh_queues_bytes units queues n))
      unfolding fresh_units_bytes fresh_queues_bytes
      fresh_other h =
          let other = ne_eqb (length units) units_bytes h in
          (rw (legal, other), (rw (legal, other), rw (legal, other)))

      pub fresh_short : length units ≡ units_bytes → length queues ≢ network_bytes
          → (2 ≡ hub_answer (border_fresh_refusal units queues n) 0)
          × ((units ≡ fresh_units_bytes units queues n) × (queues ≡ fresh_queues_bytes units queues n))
      unfolding fresh_units_bytes fresh_queues_bytes
      fresh_short h d =
          let right = eq-eqb (length units) units_bytes h in
          let other = ne_eqb (length queues) network_bytes d in
          (rw (legal, right, other), (rw (legal, right, other), rw (legal, right, other)))

      -- The numbers of a fresh network, whatever they were before, are laid over the bytes.
      pub fresh_laid : length units ≡ units_bytes → length queues ≡ network_bytes
          → (blank : List ℕ) {after bytes sent : List ℕ} {answer : ℕ} → length blank ≡ network_words
          → (answer ≡ hub_answer (fresh_network_refusal blank queues n) 0)
          × ((after ≡ fresh_words blank queues n) × (sent ≡ fresh_bytes blank queues n))
          → bytes ≡ bytes_of after
          → (answer ≡ hub_answer (border_fresh_refusal units queues n) 0)
          × ((bytes ≡ fresh_units_bytes units queues n) × (sent ≡ fresh_queues_bytes units queues n))
      unfolding fresh_units_bytes fresh_queues_bytes fresh_words fresh_bytes
      fresh_laid h l blank many done laid =
          let right = eq-eqb (length units) units_bytes h in
          let long = eq-eqb (length queues) network_bytes l in
          let whole = eq-eqb (length blank) network_words many in (
            rw (legal, right, long) (rw (legal, whole, long) at done.0),
            (
              rw (legal, right, long) (laid ∙ ap bytes_of (rw (legal, whole, long) at done.1.0)),
              rw (legal, right, long) (rw (legal, whole, long) at done.1.1),
            ),
          )

-- A trace.
module _ (units queues : List ℕ) (start destination : ℕ) (choices path : List ℕ) where
  pub wrong_path : length units ≢ units_bytes → path ≡ border_path units queues start destination choices path
  unfolding border_path
  wrong_path h = rw (ne_eqb (length units) units_bytes h)

  pub right_path : {words after : List ℕ} → length units ≡ units_bytes → words ≡ words_of units
      → after ≡ path_after words queues start destination choices path → after ≡ border_path units queues start destination choices path
  unfolding border_path
  right_path h read e = rw (eq-eqb (length units) units_bytes h, ← read) e

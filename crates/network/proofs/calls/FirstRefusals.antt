-- The refusals of a network's call in two parts: those that come before the queues are looked at, as the code finds them in
-- the tables, and then 13; and what it tells that there is none of the first.
use Prim.Native.Nat.{ℕ, ◌<◌}
use native.Mathlib.Omega.{arith}
use mathlib.Core.Bool.{Bool, true, false, not, ◌&&◌}
use mathlib.Core.List.{List}
use mathlib.Core.Logic.{◌≢◌}
use mathlib.Core.Path.{◌≡◌, sym, ap, ◌∙◌}
use borrow.Author.Tests.{not-false}
use lib.Dec.{eqb}
use lib.ListN.{length}
use Rattle.ground.specs.Limits.{legal_cost}
use Rattle.ground.specs.Refusal.{accepted, ◌gives◌, ◌otherwise◌}
use Rattle.ground.specs.Rows.{at}
use Rattle.rules.specs.Event.{message_refusal}
use Rattle.rules.specs.Network.{Network, up, cost, down, deliver, unit_at, queue, is_up, next_message, fresh, bad_ends}
use Rattle.rules.specs.Network.{link_refusal, overflows, refusal_of}
use Rattle.rules.specs.Tables.{network_from, fit_tables}
use Rattle.fitness.specs.UnitTables.{is_linked}
use Rattle.ground.proofs.Refusal.{gives_none, otherwise_none, first_counts, rest_counts, in_a_row}
use Rattle.rules.proofs.Fit.{fit_tables_of}
use Rattle.steps.proofs.AcceptedCalls.{Ends, AcceptedUp, AcceptedCost, AcceptedDown, good_ends, accepted_up, accepted_cost}
use Rattle.steps.proofs.AcceptedCalls.{accepted_down}
use Rattle.ground.proofs.Cases.{by_test}
use Rattle.fitness.proofs.FitTables.{table_there}
use Rattle.fitness.proofs.PartsRead.{linked}
use Rattle.network.specs.FirstRefusals.{ends_refusal, first_refusal}

module _ (words bytes : List ℕ) (a b : ℕ) where
  -- The network that the tables hold.
  abbrev net : Network
  net = network_from words bytes

  -- 2.
  abbrev unfit : ℕ
  unfit = not (fit_tables words bytes) gives 2

  -- 3.
  abbrev wrong_ends : ℕ
  wrong_ends = bad_ends (at words 0) a b gives 3

  -- The tables' word for a link is the network's.
  same_word : fit_tables words bytes ≡ true → a < at words 0 → b < at words 0 → is_linked words a b ≡ is_up net a b
  unfolding network_from
  same_word e ha hb =
      let f = fit_tables_of words bytes e in
      linked words bytes a b ha hb (table_there words bytes e a ha) (omega (arith, f.high)) (f.counts a ha)

  -- After 2 and 3 it is all one which of the two words is asked.
  either_word : (rest : Bool → ℕ)
      → (unfit otherwise wrong_ends otherwise rest (is_up net a b))
      ≡ (unfit otherwise wrong_ends otherwise rest (is_linked words a b))
  either_word rest =
      by_test (fit_tables words bytes)
      (λ e. by_test (bad_ends (at words 0) a b)
      (λ t. rw (e, t))
      (λ t.
      let ends : Ends (at words 0) a b = good_ends (at words 0) a b t in
      rw (same_word e ends.first ends.second)))
      (λ e. rw e)

  -- What comes after 3, grouped with 2 and 3.
  grouped : (own rest : ℕ)
      → (unfit otherwise wrong_ends otherwise (own otherwise rest))
      ≡ ((unfit otherwise wrong_ends otherwise own) otherwise rest)
  grouped own rest =
      ap (λ (x : ℕ). unfit otherwise x) (in_a_row wrong_ends own rest) ∙ in_a_row unfit (wrong_ends otherwise own) rest

  -- The first refusals, and then the rest.
  first_parts : (legal asks : Bool) (rest : ℕ)
      → (unfit otherwise wrong_ends otherwise not legal gives 4
      otherwise link_refusal (is_up net a b) asks otherwise rest)
      ≡ (first_refusal words bytes a b legal asks otherwise rest)
  first_parts legal asks rest =
      let costs : ℕ = not legal gives 4 in
      let link : ℕ = link_refusal (is_linked words a b) asks in
      either_word (λ t. costs otherwise link_refusal t asks otherwise rest)
      ∙ ap (λ (x : ℕ). unfit otherwise wrong_ends otherwise x) (in_a_row costs link rest)
      ∙ grouped (costs otherwise link) rest

  -- 8 and 10 to 12 of a delivery.
  abbrev pub undelivered : ℕ
  undelivered =
      eqb (length (queue net a b)) 0 gives 8 otherwise message_refusal (unit_at net b) (next_message (queue net a b))

  -- The refusals of each call, where `result` is its outcome.
  module _ (result : Network) where
    -- 13.
    abbrev overfull : ℕ
    overfull = overflows result gives 13

    -- Of a link up.
    pub up_parts : (ca cb : ℕ)
        → (unfit otherwise refusal_of net (up a b ca cb) result)
        ≡ (first_refusal words bytes a b (legal_cost ca && legal_cost cb) true otherwise overfull)
    unfolding refusal_of network_from
    up_parts ca cb = first_parts (legal_cost ca && legal_cost cb) true overfull

    -- Of a cost.
    pub cost_parts : (c : ℕ)
        → (unfit otherwise refusal_of net (cost a b c) result)
        ≡ (first_refusal words bytes a b (legal_cost c) false otherwise overfull)
    unfolding refusal_of network_from
    cost_parts c = first_parts (legal_cost c) false overfull

    -- Of a link down.
    pub down_parts : (unfit otherwise refusal_of net (down a b) result)
        ≡ (first_refusal words bytes a b true false otherwise overfull)
    unfolding refusal_of network_from
    down_parts = first_parts true false overfull

    -- Of a delivery.
    pub deliver_parts : (unfit otherwise refusal_of net (deliver a b) result)
        ≡ ((first_refusal words bytes a b true false otherwise undelivered) otherwise overfull)
    unfolding refusal_of network_from
    deliver_parts =
        let empty : ℕ = eqb (length (queue net a b)) 0 gives 8 in
        let message : ℕ = message_refusal (unit_at net b) (next_message (queue net a b)) in
        let link : ℕ = first_refusal words bytes a b true false in
        first_parts true false (empty otherwise message otherwise overfull)
        ∙ ap (λ (x : ℕ). link otherwise x) (in_a_row empty message overfull)
        ∙ in_a_row link undelivered overfull

  -- Where none of the first is given, the tables are fit, and the call would be accepted if no queue overflowed.
  passed : (refusal early : ℕ) → (unfit otherwise refusal) ≡ (early otherwise overflows (fresh 0) gives 13)
      → early ≡ accepted → (fit_tables words bytes ≡ true) × (refusal ≡ accepted)
  unfolding overflows fresh
  passed refusal early e none =
      let both : (unfit ≡ accepted) × (refusal ≡ accepted) = otherwise_none unfit refusal (e ∙ rest_counts early _ none) in
      (not-false (fit_tables words bytes) (gives_none (not (fit_tables words bytes)) 1 both.0), both.1)

  -- So it is of a link up.
  pub up_passed : (ca cb : ℕ) → first_refusal words bytes a b (legal_cost ca && legal_cost cb) true ≡ accepted
      → (fit_tables words bytes ≡ true) × AcceptedUp net a b (fresh 0) ca cb
  up_passed ca cb e =
      let known : (fit_tables words bytes ≡ true) × (refusal_of net (up a b ca cb) (fresh 0) ≡ accepted) =
      passed _ _ (up_parts (fresh 0) ca cb) e in
      (known.0, accepted_up net a b (fresh 0) ca cb known.1)

  -- So it is of a cost.
  pub cost_passed : (c : ℕ) → first_refusal words bytes a b (legal_cost c) false ≡ accepted
      → (fit_tables words bytes ≡ true) × AcceptedCost net a b (fresh 0) c
  cost_passed c e =
      let known : (fit_tables words bytes ≡ true) × (refusal_of net (cost a b c) (fresh 0) ≡ accepted) =
      passed _ _ (cost_parts (fresh 0) c) e in
      (known.0, accepted_cost net a b (fresh 0) c known.1)

  -- So it is of a link down or a delivery.
  pub link_passed : first_refusal words bytes a b true false ≡ accepted
      → (fit_tables words bytes ≡ true) × AcceptedDown net a b (fresh 0)
  link_passed e =
      let known : (fit_tables words bytes ≡ true) × (refusal_of net (down a b) (fresh 0) ≡ accepted) =
      passed _ _ (down_parts (fresh 0)) e in
      (known.0, accepted_down net a b (fresh 0) known.1)

  -- 2 or 3 is given whatever comes after.
  pub ends_first : (rest : ℕ) {number : ℕ} → number ≡ ends_refusal words bytes a b → number ≢ accepted
      → number ≡ (unfit otherwise wrong_ends otherwise rest)
  ends_first rest e d =
      e
      ∙ sym (in_a_row unfit wrong_ends rest ∙ first_counts (ends_refusal words bytes a b) rest (λ z. d (e ∙ z)))

  -- Where neither is, what comes after counts.
  pub ends_passed : (rest : ℕ) {number : ℕ} → number ≡ ends_refusal words bytes a b → number ≡ accepted
      → rest ≡ (unfit otherwise wrong_ends otherwise rest)
  ends_passed rest e z =
      sym (in_a_row unfit wrong_ends rest ∙ rest_counts (ends_refusal words bytes a b) rest (sym e ∙ z))

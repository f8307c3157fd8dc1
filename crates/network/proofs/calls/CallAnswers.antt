-- What a call answers and leaves, by its refusals: those before the queues are looked at, and then 13.
use Prim.Native.Nat.{ℕ, ◌<◌}
use mathlib.Core.Bool.{Bool, true, false}
use mathlib.Core.List.{List}
use mathlib.Core.Logic.{◌≢◌}
use mathlib.Core.Path.{◌≡◌, sym, ap, ◌∙◌}
use native.Mathlib.Omega.{arith}
use borrow.Author.Tests.{ne_eqb, le-ltb}
use lib.Dec.{eqb, ltb}
use lib.ListN.{length}
use Rattle.ground.proofs.Refusal.{first_counts, rest_counts}
use Rattle.ground.specs.Limits.{queue_room}
use Rattle.ground.specs.Refusal.{accepted, ◌gives◌, ◌otherwise◌, answer_base}
use Rattle.ground.specs.Rows.{some}
use Rattle.rules.specs.Network.{Network, Call, queue, outcome, overflows}
use Rattle.rules.specs.NetworkTable.{network_refusal, network_answer, words_after, bytes_after}
use Rattle.rules.specs.Tables.{network_from}
use Rattle.ground.proofs.Rows.{some_at}
use Rattle.ground.proofs.Tests.{not_yes, not_both, if_false}
use Rattle.rules.proofs.LaidNetwork.{ShapedNetwork}
use Rattle.events.proofs.HeldNetwork.{Tabled}

-- A test that fails of each unit below n holds of none.
none_of : (n : ℕ) (p : ℕ → Bool) → ((i : ℕ) → i < n → p i ≡ false) → some n p ≡ false
none_of n p each =
    not_yes (some n p) (λ e.
    let found : (i : ℕ) × (i < n) × (p i ≡ true) = some_at n p e in
    not_both (p found.0) found.2 (each found.0 found.1))

-- No queue of a shaped network overflows.
pub within_room : (net : Network) → ShapedNetwork net → overflows net ≡ false
unfolding overflows
within_room net s =
    none_of net.count (λ a. some net.count (λ b. ltb queue_room (length (queue net a b))))
    (λ a ha. none_of net.count (λ b. ltb queue_room (length (queue net a b)))
    (λ b hb. le-ltb queue_room (length (queue net a b)) (s.each a b ha hb).room))

module _ (words bytes : List ℕ) (call : Call) where
  -- The network once the call is made.
  abbrev result : Network
  result = outcome (network_from words bytes) call

  -- What the call answers, and what the tables then hold.
  abbrev pub Answered : (answer : ℕ) (after left : List ℕ) → Type 0
  Answered answer after left =
      (answer ≡ network_answer words bytes call)
      × ((after ≡ words_after words bytes call) × (left ≡ bytes_after words bytes call))

  -- What is so answered and left is, where the same is.
  pub answered_as : {x y : ℕ} {ws vs bs cs : List ℕ} → x ≡ y → ws ≡ vs → bs ≡ cs → Answered y vs cs → Answered x ws bs
  answered_as p q r a = (p ∙ a.0, (q ∙ a.1.0, r ∙ a.1.1))

  -- A refusal changes nothing.
  refused : {number : ℕ} → number ≡ network_refusal words bytes call → number ≢ accepted → Answered number words bytes
  unfolding words_after bytes_after
  refused {number} e d =
      let out : eqb (network_refusal words bytes call) accepted ≡ false = ne_eqb _ _ (λ z. d (e ∙ z)) in
      (e ∙ sym (if_false _ _ _ out), (sym (if_false _ _ _ out), sym (if_false _ _ _ out)))

  -- The refusals before 13, and 13.
  module _ (early : ℕ) (parts : network_refusal words bytes call ≡ (early otherwise overflows result gives 13)) where
    -- One of the first.
    pub refused_early : {number : ℕ} → number ≡ early → number ≢ accepted → Answered number words bytes
    refused_early e d = refused (e ∙ sym (parts ∙ first_counts early _ (λ z. d (e ∙ z)))) d

    -- 13.
    pub refused_full : early ≡ accepted → overflows result ≡ true → Answered 13 words bytes
    refused_full none full =
        refused (sym (parts ∙ rest_counts early _ none ∙ ap (λ (t : Bool). t gives 13) full)) (λ z. omega arith)

    -- None: the tables hold the result.
    pub done : early ≡ accepted → {n : ℕ} {after left : List ℕ} → Tabled n after left result → Answered answer_base after left
    unfolding words_after bytes_after
    done none t =
        let free : network_refusal words bytes call ≡ accepted =
        parts ∙ rest_counts early _ none ∙ ap (λ (t : Bool). t gives 13) (within_room result t.shaped) in
        (rw free, (rw free (sym t.units), rw free (sym t.queues)))

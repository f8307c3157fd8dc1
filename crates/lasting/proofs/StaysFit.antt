-- A call that is not refused leaves a fit and shaped network fit: its links are up at both ends or at none, as before.
use Prim.Native.Nat.{ℕ, ◌<◌}
use native.Mathlib.Omega.{arith}
use mathlib.Core.Bool.{Bool, true, false, not, ◌&&◌, beq}
use mathlib.Core.List.{List}
use mathlib.Core.Path.{◌≡◌, refl, sym, ap, ◌∙◌}
use borrow.Author.Tests.{eq-eqb, ne_eqb, le-leb}
use lib.Dec.{eqb}
use lib.ListN.{length, set, drop}
use lib.Seq.{get_or-set_other, set-get_or}
use Rattle.ground.specs.Limits.{queue_room}
use Rattle.ground.specs.Refusal.{accepted}
use Rattle.ground.specs.Rows.{at, every}
use Rattle.rules.specs.Event.{Event, received, link_up, new_cost, link_down, noted}
use Rattle.rules.specs.Network.{Network, Call, up, cost, down, deliver, unit_at, queue, is_up, next_message, with_queue}
use Rattle.rules.specs.Network.{reacted, happens, outcome, refusal_of, call_refusal, fit_queued, fit_queue, fit_network}
use Rattle.rules.specs.Unit.{fit_unit}
use Rattle.ground.proofs.Each.{each_at}
use Rattle.ground.proofs.Limits.{count_legal}
use Rattle.ground.proofs.Rows.{every_of}
use Rattle.ground.proofs.Tests.{both_of, either_left, either_right}
use Rattle.rules.proofs.Fit.{FitNetwork}
use Rattle.rules.proofs.Laid.{no_message}
use Rattle.rules.proofs.LaidNetwork.{ShapedNetwork}
use Rattle.rules.proofs.QueuedMessages.{message-at}
use Rattle.steps.proofs.AcceptedCalls.{Ends, AcceptedUp, AcceptedCost, AcceptedDelivery}
use Rattle.steps.proofs.AcceptedCalls.{accepted_up, accepted_cost, accepted_down, accepted_delivery}
use Rattle.steps.proofs.LinkEnds.{end_set}
use Rattle.ground.proofs.Cases.{by_test, by_equal}
use Rattle.loopfree.proofs.Invariant.{by_direction}
use Rattle.steps.proofs.NetworkLists.{emptied}
use Rattle.steps.proofs.OrderlyNetwork.{Orderly, end_here, end_other}
use Rattle.steps.proofs.OrderlyCalls.{turned, orderly_of, orderly_up, emptied_orderly, first_down, first_taken}
use Rattle.steps.proofs.OrderlyCalls.{Roomy, outcome_orderly, outcome_room}

-- A link is up at both ends or at none.
abbrev pub Alike : Network → Type 0
Alike net = (x y : ℕ) → x < net.count → y < net.count → is_up net x y ≡ is_up net y x

-- An event at unit a that leaves its costs but for that of the link to unit b, which is c then.
module _ (net : Network) (o : Orderly net) (a b : ℕ) (t : Ends net.count a b) (e : Event) (c : ℕ)
    (costs : (noted (unit_at net a) e).costs ≡ set (unit_at net a).costs b c) where
  -- The end at a of the link to b is as that cost says.
  end_about : is_up (happens net a e) a b ≡ not (eqb c 0)
  end_about =
      end_here net o a e t.first b
      ∙ ap (λ (row : List ℕ). not (eqb (at row b) 0)) costs
      ∙ end_set (unit_at net a).costs b c (rw ((o.shaped a t.first).costs, o.counts a t.first) t.second)

  -- Every other end stays.
  ends_stay : (x y : ℕ) → (x ≡ a → y ≡ b → ⊥) → is_up (happens net a e) x y ≡ is_up net x y
  ends_stay x y d =
      by_equal x a
      (λ xa.
      rw xa
      (end_here net o a e t.first y
      ∙ rw (costs, get_or-set_other (unit_at net a).costs b y c 0 (d xa))))
      (λ xa. end_other net o a e t.first x y xa)

  -- Where the link to b is up as before, all ends stay, and links are up at both ends or at none as before.
  alike_one : not (eqb c 0) ≡ is_up net a b → Alike net → Alike (happens net a e)
  unfolding happens reacted
  alike_one same alike x y hx hy = stays x y ∙ alike x y hx hy ∙ sym (stays y x)
    where
      stays : (x y : ℕ) → is_up (happens net a e) x y ≡ is_up net x y
      stays x y =
          by_equal x a
          (λ xa. by_equal y b (λ yb. rw (xa, yb) (end_about ∙ same)) (λ yb. ends_stay x y (λ p q. yb q)))
          (λ xa. ends_stay x y (λ p q. xa p))

-- An event at each end of a link, after which both ends are up or both are down.
module _ (net : Network) (o : Orderly net) (a b : ℕ) (t : Ends net.count a b) (ea eb : Event) (ca cb : ℕ)
    (one : Orderly (happens net a ea)) (below : Ends (happens net a ea).count b a)
    (costs-a : (noted (unit_at net a) ea).costs ≡ set (unit_at net a).costs b ca)
    (costs-b : (noted (unit_at (happens net a ea) b) eb).costs ≡ set (unit_at (happens net a ea) b).costs a cb) where
  -- Links are up at both ends or at none, as before.
  alike_two : not (eqb ca 0) ≡ not (eqb cb 0) → Alike net → Alike (happens (happens net a ea) b eb)
  unfolding happens reacted
  alike_two same alike x y hx hy =
      by_equal x y
      (λ xy. rw xy)
      (λ xy. by_direction (λ x y. is_up out x y ≡ is_up out y x) a b (there ∙ sym back) (back ∙ sym there) x y xy
      (λ apart.
      stays x y apart.1 apart.2
      ∙ alike x y hx hy
      ∙ sym (stays y x (λ p q. apart.2 q p) (λ p q. apart.1 q p))))
    where
      out : Network
      out = happens (happens net a ea) b eb

      stays : (x y : ℕ) → (x ≡ a → y ≡ b → ⊥) → (x ≡ b → y ≡ a → ⊥) → is_up out x y ≡ is_up net x y
      stays x y p q =
          ends_stay (happens net a ea) one b a below eb cb costs-b x y q ∙ ends_stay net o a b t ea ca costs-a x y p

      back : is_up out b a ≡ not (eqb ca 0)
      back = end_about (happens net a ea) one b a below eb cb costs-b ∙ sym same

      there : is_up out a b ≡ not (eqb ca 0)
      there =
          ends_stay (happens net a ea) one b a below eb cb costs-b a b (λ p q. t.differ p)
          ∙ end_about net o a b t ea ca costs-a

module _ (net : Network) (f : FitNetwork net) (s : ShapedNetwork net) where
  -- A call that is not refused leaves links up at both ends or at none.
  outcome_alike : (call : Call) (result : Network) → refusal_of net call result ≡ accepted → Alike (outcome net call)
  unfolding outcome happens reacted noted with_queue
  outcome_alike (up a b ca cb) result e =
      let o : Orderly net = orderly_of net f s in
      let known : AcceptedUp net a b result ca cb = accepted_up net a b result ca cb e in
      alike_two net o a b known.ends (link_up b ca) (link_up a cb) ca cb
      (orderly_up net o a b known.ends ca known.cost_a) (turned known.ends) refl refl
      (ap not (ne_eqb ca 0 (omega (arith, known.cost_a.least)) ∙ sym (ne_eqb cb 0 (omega (arith, known.cost_b.least)))))
      f.alike
  outcome_alike (cost a b c) result e =
      let known : AcceptedCost net a b result c = accepted_cost net a b result c e in
      alike_one net (orderly_of net f s) a b known.ends (new_cost b c) c refl
      (ap not (ne_eqb c 0 (omega (arith, known.cost.least))) ∙ sym known.opened) f.alike
  outcome_alike (down a b) result e =
      let o : Orderly net = orderly_of net f s in
      let t : Ends net.count a b = (accepted_down net a b result e).ends in
      alike_two (emptied net a b) (emptied_orderly net o a b t) a b t (link_down b) (link_down a) 0 0
      (first_down net o a b t) (turned t) refl refl refl f.alike
  outcome_alike (deliver a b) result e =
      let known : AcceptedDelivery net a b result = accepted_delivery net a b result e in
      alike_one (with_queue net a b (drop 1 (queue net a b)))
      (first_taken net (orderly_of net f s) a b known.ends known.opened) b a (turned known.ends)
      (received (next_message (queue net a b))) (at (unit_at net b).costs a) (sym (set-get_or (unit_at net b).costs a 0)) refl
      f.alike

-- A queue of an orderly network that has at most its room is fit.
queue_fit : (net : Network) → Orderly net → Roomy net → (a b : ℕ) → a < net.count → b < net.count
    → fit_queue net a b ≡ true
unfolding fit_queue
queue_fit net o roomy a b ha hb =
    rw (
      le-leb (length (queue net a b)) queue_room (roomy a b ha hb),
      by_test (is_up net a b)
          (λ opened. either_left (is_up net a b) _ opened)
          (λ closed. either_right (is_up net a b) _ (eq-eqb _ 0 (ap length (o.quiet a b ha hb closed)))),
    )
    (every_of (length (queue net a b)) (λ i. fit_queued net.count a (next_message (drop i (queue net a b)))) (λ i l.
    rw message-at (each_at (o.queued a b ha hb) i no_message l)))

-- An orderly network whose links are up at both ends or at none and whose queues have at most their room is fit.
pub orderly_fit : (net : Network) → Orderly net → Alike net → Roomy net → fit_network net ≡ true
unfolding fit_network
orderly_fit net o alike roomy =
    rw (count_legal net.count o.low o.high, every_of net.count unit_test unit)
    (every_of net.count (λ a. every net.count (link_test a)) (λ a ha. every_of net.count (link_test a) (λ b hb.
    both_of (beq (is_up net a b) (is_up net b a)) (fit_queue net a b) (rw (alike a b ha hb) (beq_same (is_up net b a)))
    (queue_fit net o roomy a b ha hb))))
  where
    unit_test : ℕ → Bool
    unit_test i = eqb (unit_at net i).count net.count && eqb (unit_at net i).me i && fit_unit (unit_at net i)

    link_test : (a b : ℕ) → Bool
    link_test a b = beq (is_up net a b) (is_up net b a) && fit_queue net a b

    unit : (i : ℕ) → i < net.count → unit_test i ≡ true
    unit i h = rw (eq-eqb _ _ (o.counts i h), eq-eqb _ _ (o.own i h), o.fit i h)

    beq_same : (t : Bool) → beq t t ≡ true
    beq_same true = refl
    beq_same false = refl

-- A call that is not refused leaves a fit and shaped network fit.
pub outcome_fit : (net : Network) → FitNetwork net → ShapedNetwork net → (call : Call)
    → call_refusal net call ≡ accepted → fit_network (outcome net call) ≡ true
outcome_fit net f s call e =
    orderly_fit (outcome net call) (outcome_orderly net f s call (outcome net call) e)
    (outcome_alike net f s call (outcome net call) e) (outcome_room net f s call (outcome net call) e)

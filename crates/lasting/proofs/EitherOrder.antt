-- "Link up and link down reach both ends in one step: each end has its event, in either order with the same result."
use Prim.Native.Nat.{ℕ}
use mathlib.Core.List.{List, [], ◌++◌}
use mathlib.Core.Logic.{◌≢◌}
use mathlib.Core.Path.{◌≡◌, sym, ap, ◌∙◌}
use lib.ListN.{get_or, set}
use lib.Seq.{get_or-set_other, set_comm}
use Rattle.ground.specs.Rows.{tab}
use Rattle.rules.specs.Event.{Event, link_up, link_down, Reaction, reaction}
use Rattle.rules.specs.Message.{Message}
use Rattle.rules.specs.Network.{Network, up, down, unit_at, queue, with_queue, reacted, happens, outcome}
use Rattle.rules.specs.Unit.{Unit}
use Rattle.steps.proofs.NetworkLists.{unit_elsewhere, emptied}

module _ (net : Network) (a b : ℕ) (d : a ≢ b) where
  -- The other way round they differ too.
  differ : b ≢ a
  differ q = d (sym q)

  -- The reactions of two different units may be laid into the network in either order.
  reacted_either : (ra rb : Reaction) → reacted (reacted net a ra) b rb ≡ reacted (reacted net b rb) a ra
  unfolding reacted
  reacted_either ra rb =
      λ i. record {
        count = net.count;
        units = set_comm net.units a b ra.unit rb.unit d i;
        queues = queues i;
      }
    where
      row : (x : ℕ) → Reaction → List (List Message)
      row x r = tab net.count (λ k. queue net x k ++ get_or r.sent k [])

      queues : (reacted (reacted net a ra) b rb).queues ≡ (reacted (reacted net b rb) a ra).queues
      queues =
          rw (get_or-set_other net.queues a b (row a ra) [] differ, get_or-set_other net.queues b a (row b rb) [] d)
          (set_comm net.queues a b (row a ra) (row b rb) d)

  -- So may their events happen.
  happens_either : (ea eb : Event) → happens (happens net a ea) b eb ≡ happens (happens net b eb) a ea
  unfolding happens
  happens_either ea eb =
      let ra : Reaction = reaction (unit_at net a) ea in
      let rb : Reaction = reaction (unit_at net b) eb in
      ap (λ (u : Unit). reacted (reacted net a ra) b (reaction u eb)) (unit_elsewhere net a ra b differ)
      ∙ reacted_either ra rb
      ∙ ap (λ (u : Unit). reacted (reacted net b rb) a (reaction u ea)) (sym (unit_elsewhere net b rb a d))

  -- Both queues of a link may be emptied in either order.
  emptied_either : emptied net a b ≡ emptied net b a
  unfolding with_queue
  emptied_either = λ i. record { count = net.count; units = net.units; queues = queues i }
    where
      row : (x y : ℕ) → List (List Message)
      row x y = set (get_or net.queues x []) y []

      queues : (emptied net a b).queues ≡ (emptied net b a).queues
      queues =
          rw (get_or-set_other net.queues a b (row a b) [] differ, get_or-set_other net.queues b a (row b a) [] d)
          (set_comm net.queues a b (row a b) (row b a) d)

  -- A link comes up with the same result whichever end has its event first.
  pub up_either_order : (costOfA costOfB : ℕ) → outcome net (up a b costOfA costOfB) ≡ outcome net (up b a costOfB costOfA)
  unfolding outcome
  up_either_order ca cb = happens_either (link_up b ca) (link_up a cb)

-- A link goes down with the same result whichever end has its event first.
pub down_either_order : (net : Network) (a b : ℕ) → a ≢ b → outcome net (down a b) ≡ outcome net (down b a)
unfolding outcome
down_either_order net a b d =
    happens_either (emptied net a b) a b d (link_down b) (link_down a)
    ∙ ap (λ (emptied : Network). happens (happens emptied b (link_down a)) a (link_down b)) (emptied_either net a b d)

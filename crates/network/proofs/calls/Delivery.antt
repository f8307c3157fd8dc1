-- A delivery over a link that is up: the first message of the queue as its bytes are found, what the unit that is sent it
-- refuses, and else the event at that unit.
use Prim.Native.Nat.{ℕ, ◌≤◌, ◌<◌}
use native.Mathlib.Omega.{arith}
use mathlib.Core.Bool.{Bool, true, false, not, ◌&&◌}
use mathlib.Core.List.{List}
use mathlib.Core.Logic.{◌≢◌, inl}
use mathlib.Core.Path.{◌≡◌, refl, sym, ap, ◌∙◌}
use borrow.Author.Tests.{eq-eqb, ne_eqb}
use lib.Dec.{eqb}
use lib.ListN.{length, drop}
use Rattle.ground.proofs.Refusal.{first_counts, rest_counts}
use Rattle.ground.specs.Limits.{firmware_room}
use Rattle.ground.specs.Refusal.{accepted, ◌gives◌, ◌otherwise◌, answer_base}
use Rattle.ground.specs.Rows.{at}
use Rattle.tree.specs.Recompute.{copy_of}
use Rattle.tree.specs.Tree.{is_tree}
use Rattle.rules.specs.Event.{received, reaction, message_refusal, changes_nothing}
use Rattle.rules.specs.Hub.{hub_message, hub_refusal, hub_answer, table_answer, outgoing, event_of}
use Rattle.rules.specs.Message.{Message, holds_acknowledgment, applied, written}
use Rattle.rules.specs.Network.{Network, deliver, unit_at, queue, is_up, next_message, with_queue, reacted, happens, outcome}
use Rattle.rules.specs.Network.{fit_queued}
use Rattle.rules.specs.NetworkTable.{network_refusal}
use Rattle.rules.specs.Tables.{laid_queue, network_from, fit_tables}
use Rattle.rules.specs.Unit.{Unit, awaits}
use Rattle.ground.proofs.Each.{each_at}
use Rattle.ground.proofs.Tests.{if_true, if_false}
use Rattle.rules.proofs.Fit.{FitNetwork, fit_tables_of, fit_network_shaped}
use Rattle.rules.proofs.Laid.{no_message}
use Rattle.rules.proofs.LaidNetwork.{ShapedNetwork}
use Rattle.rules.proofs.QueuedMessages.{queued_legal, queued_sender}
use Rattle.rules.proofs.Written.{reads_back}
use Rattle.steps.proofs.AcceptedCalls.{Ends}
use Rattle.ground.proofs.Cases.{by_equal}
use Rattle.steps.proofs.NetworkLists.{queue_elsewhere, shape_queue}
use Rattle.steps.proofs.OrderlyCalls.{turned, orderly_of}
use Rattle.queues.specs.Queue.{queue_of}
use Rattle.queues.proofs.QueueMessages.{Begins, begins_empty, begins_first}
use Rattle.fitness.specs.UnitTables.{table_of}
use Rattle.fitness.proofs.FitTables.{table_laid}
use Rattle.events.specs.Happening.{popped_if}
use Rattle.events.specs.Telling.{told_by, first_in, first_told, first_answer}
use Rattle.network.specs.FirstRefusals.{first_refusal}
use Rattle.events.specs.declared.tell.Told.{Told}
use Rattle.events.proofs.HeldNetwork.{Tabled, fit_tabled, queue_is, popped}
use Rattle.events.proofs.LaidTables.{shape_of}
use Rattle.events.proofs.MessageRoom.{fits_same}
use Rattle.events.proofs.ToldUnit.{told_answer}
use Rattle.network.proofs.calls.CallAnswers.{Answered, refused_early}
use Rattle.network.proofs.calls.EventTrials.{refuses_message, trial}
use Rattle.network.proofs.calls.FirstRefusals.{undelivered, deliver_parts, link_passed}
use Rattle.network.proofs.calls.OneEvent.{One}

-- The numbers 10 to 12 are below 100.
low_number : (x y z : Bool) → (x gives 10 otherwise y gives 11 otherwise z gives 12) < answer_base
low_number true y z = omega arith
low_number false true z = omega arith
low_number false false true = omega arith
low_number false false false = omega arith

-- So are the refusals of a message's content.
message_low : (u : Unit) (m : Message) → message_refusal u m < answer_base
unfolding message_refusal
message_low u m =
    low_number (holds_acknowledgment m && not (awaits u m.sender))
    (changes_nothing (copy_of u.copies m.sender) m.changes)
    (not (is_tree u.count m.sender (applied (copy_of u.copies m.sender) m.changes)))

-- The network once the first message is taken off the queue from a to b.
abbrev pub first_taken : Network → (a b : ℕ) → Network
first_taken net a b = with_queue net a b (drop 1 (queue net a b))

-- The refusals before 13.
abbrev early : (words bytes : List ℕ) (a b : ℕ) → ℕ
early words bytes a b = first_refusal words bytes a b true false otherwise undelivered words bytes a b

-- One of the link.
pub refused_link : (words bytes : List ℕ) (a b : ℕ) {number : ℕ} → number ≡ first_refusal words bytes a b true false → number ≢ accepted
    → Answered words bytes (deliver a b) number words bytes
unfolding network_refusal
refused_link words bytes a b same d =
    refused_early words bytes (deliver a b) (early words bytes a b) (deliver_parts words bytes a b _)
    (same ∙ sym (first_counts (first_refusal words bytes a b true false) (undelivered words bytes a b) (λ z. d (same ∙ z)))) d

module _ (words bytes : List ℕ) (a b : ℕ) {number : ℕ} (first : number ≡ first_refusal words bytes a b true false)
    (z : number ≡ accepted) where
  -- None of the link's refusals is given.
  e : first_refusal words bytes a b true false ≡ accepted
  e = sym first ∙ z

  -- The network that the tables hold.
  abbrev net : Network
  net = network_from words bytes

  -- Its queue from a to b.
  abbrev messages : List Message
  messages = queue net a b

  -- The first message there.
  abbrev m : Message
  m = next_message messages

  -- The unit that is sent it.
  abbrev u : Unit
  u = unit_at net b

  -- The tables are fit.
  fit : fit_tables words bytes ≡ true
  fit = (link_passed words bytes a b e).0

  -- The ends are two units.
  ends : Ends net.count a b
  ends = (link_passed words bytes a b e).1.ends

  -- The network is fit.
  f : FitNetwork net
  f = fit_tables_of words bytes fit

  -- It is shaped.
  s : ShapedNetwork net
  s = fit_network_shaped words bytes fit

  -- The link is up at the unit's end too.
  back : is_up net b a ≡ true
  back = f.alike b a ends.second ends.first ∙ (link_passed words bytes a b e).1.opened

  -- One of the message.
  undone : {number : ℕ} → number ≡ undelivered words bytes a b → number ≢ accepted
      → Answered words bytes (deliver a b) number words bytes
  unfolding network_refusal
  undone same d =
      refused_early words bytes (deliver a b) (early words bytes a b) (deliver_parts words bytes a b _)
      (same ∙ sym (rest_counts (first_refusal words bytes a b true false) (undelivered words bytes a b) e)) d

  -- The tables once the first message is taken off the queue.
  pub first_popped : Tabled (at words 0) words (popped_if true bytes a b) (first_taken net a b)
  unfolding network_from
  first_popped = popped (fit_tabled words bytes fit) a b ends.first ends.second refl

  -- The bytes of the queue.
  abbrev found : List ℕ
  found = queue_of bytes a b

  -- They are what the queue lays out.
  laid : found ≡ laid_queue messages
  unfolding network_from
  laid = queue_is (fit_tabled words bytes fit) a b ends.first ends.second

  -- What the unit answers when it is told of the first message.
  module _ {answer : ℕ} (answered : answer ≡ first_answer words bytes a b) where
    -- They begin with 0: the queue is empty.
    module _ (none : at found 0 ≡ 0) where
      -- There is nothing to tell.
      silent : answer ≡ 8
      unfolding first_answer
      silent = answered ∙ if_true (eqb (at found 0) 0) _ _ (eq-eqb (at found 0) 0 none)

      -- 8.
      refused_empty : Answered words bytes (deliver a b) answer words bytes
      refused_empty =
          undone
          (silent
          ∙ sym (rw (eq-eqb (length messages) 0 (begins_empty messages (ap (λ (bs : List ℕ). at bs 0) (sym laid) ∙ none)))))
          (λ z. omega (arith, silent))

    -- Else they begin with the first message.
    module _ (some : at found 0 ≢ 0) where
      -- There is one.
      begins : Begins messages
      begins = begins_first messages (λ z. some (ap (λ (bs : List ℕ). at bs 0) laid ∙ z))

      -- It is told of the message that is written so.
      first_is : first_in found ≡ written m
      first_is = ap first_in laid ∙ begins.first

      same : {told : Told} → told ≡ first_told words bytes a b → told ≡ told_by (table_of words b) (hub_message a (written m))
      same heard = heard ∙ ap (λ (bs : List ℕ). told_by (table_of words b) (hub_message a bs)) first_is

      -- The message is legal and from a.
      proper : fit_queued net.count a m ≡ true
      proper = each_at ((orderly_of net f s).queued a b ends.first ends.second) 0 no_message begins.some

      -- The unit refuses its content alone.
      content : hub_refusal u firmware_room (hub_message a (written m)) ≡ message_refusal u m
      content =
          refuses_message net f b a (turned ends) back m
          (queued_legal net.count a m proper)
          (queued_sender net.count a m proper)

      -- So it answers that refusal, or 100 and more.
      answers : answer
          ≡ hub_answer (message_refusal u m) (length (outgoing (reaction u (event_of (hub_message a (written m))))))
      unfolding network_from first_answer
      answers =
          answered
          ∙ if_false (eqb (at found 0) 0) _ _ (ne_eqb (at found 0) 0 some)
          ∙ ap (λ (bs : List ℕ). table_answer (table_of words b) firmware_room (hub_message a bs)) first_is
          ∙ ap (λ (table : List ℕ). table_answer table firmware_room (hub_message a (written m)))
          (table_laid words bytes fit b ends.second)
          ∙ told_answer u (s.unit b ends.second) (f.unit b ends.second) (hub_message a (written m))
          ∙ ap (λ (k : ℕ). hub_answer k (length (outgoing (reaction u (event_of (hub_message a (written m))))))) content

      -- It answers the refusal where there is one.
      answers_refusal : message_refusal u m ≢ accepted → answer ≡ message_refusal u m
      answers_refusal d = answers ∙ if_false _ _ _ (ne_eqb (message_refusal u m) accepted d)

      -- Else it answers 100 or more.
      answers_more : message_refusal u m ≡ accepted → answer_base ≤ answer
      answers_more z = omega (arith, answers ∙ if_true _ _ _ (eq-eqb (message_refusal u m) accepted z))

      -- What the network refuses then is that.
      left : undelivered words bytes a b ≡ message_refusal u m
      left = rw (ne_eqb (length messages) 0 (λ z. omega (arith, begins.some)))

      -- 10 to 12.
      refused_content : answer < answer_base → Answered words bytes (deliver a b) answer words bytes
      refused_content low =
          by_equal (message_refusal u m) accepted
          (λ z. absurd (omega (arith, answers_more z)))
          (λ d. undone (answers_refusal d ∙ sym left) (λ z. d (sym (answers_refusal d) ∙ z)))

      -- Else the delivery is an event at b, in the network whose queue has lost its first message.
      one_event : answer_base ≤ answer → {told : Told} → told ≡ first_told words bytes a b
          → One words bytes (deliver a b) (first_taken net a b) b told
      unfolding network_refusal network_from outcome happens with_queue
      one_event high heard =
          let none : message_refusal u m ≡ accepted =
          by_equal (message_refusal u m) accepted
          (λ z. z)
          (λ d. absurd (omega (arith, answers_refusal d, message_low u m))) in
          record {
            early = early words bytes a b;
            parts = deliver_parts words bytes a b _;
            none = rest_counts (first_refusal words bytes a b true false) (undelivered words bytes a b) e ∙ left ∙ none;
            does = reaction u (event_of (hub_message a (written m)));
            tries = trial words bytes fit b ends.second (hub_message a (written m)) (content ∙ none) (same heard);
            shape = shape_queue net.count net (shape_of s) a b (drop 1 messages) ends.first ends.second;
            room =
                fits_same net (first_taken net a b) s refl b ends.second _ (λ y h.
                inl (queue_elsewhere net.count net (shape_of s) a b (drop 1 messages) ends.first ends.second b y
                (λ q _. (turned ends).differ q)));
            leads = ap (λ (x : Message). reacted (first_taken net a b) b (reaction u (received x))) (sym (reads_back m));
          }

    -- A refusal of the message.
    pub refused_told : answer < answer_base → Answered words bytes (deliver a b) answer words bytes
    refused_told low = by_equal (at found 0) 0 refused_empty (λ some. refused_content some low)

    -- Else the delivery is that event.
    pub deliver_one : answer_base ≤ answer → {told : Told} → told ≡ first_told words bytes a b
        → One words bytes (deliver a b) (first_taken net a b) b told
    deliver_one high heard =
        by_equal (at found 0) 0 (λ none. absurd (omega (arith, silent none))) (λ some. one_event some high heard)

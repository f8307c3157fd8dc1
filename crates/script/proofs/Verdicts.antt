-- A refusal's number is small, so an answer is told from it, and what the answer prints is the verdict of the rules.
use Prim.Native.Nat.{ℕ, ◌+◌, ◌<◌}
use native.Mathlib.Omega.{arith}
use mathlib.Core.Bool.{not, ◌&&◌}
use mathlib.Core.List.{List}
use mathlib.Core.Logic.{◌≢◌, ⊎_elim}
use mathlib.Core.Path.{◌≡◌, refl, sym, ap, ◌∙◌}
use borrow.Author.Tests.{eq-eqb, ne_eqb}
use lib.Dec.{eqb}
use lib.ListN.{length}
use Rattle.std.proofs.lemmas.Option.{none-some}
use Rattle.std.specs.Prelude.{Option, Some, None, Result, Ok, Err, IfOk, unwrap_or, ⊤}
use Rattle.ground.specs.Limits.{legal_count, legal_cost}
use Rattle.ground.specs.Refusal.{accepted, ◌gives◌, answer_base}
use Rattle.ground.specs.Refused.{done_of}
use Rattle.ground.specs.declared.refusals.Refusal.{Refusal}
use Rattle.ground.proofs.Answers.{number_below}
use Rattle.ground.proofs.Refusal.{gives_below, otherwise_below}
use Rattle.ground.proofs.Tests.{equal_or_not, if_true, if_false}
use Rattle.tree.specs.Recompute.{copy_of}
use Rattle.tree.specs.Tree.{is_tree}
use Rattle.rules.specs.Event.{changes_nothing, message_refusal}
use Rattle.rules.specs.Hub.{hub_answer}
use Rattle.rules.specs.Message.{Message, holds_acknowledgment, applied}
use Rattle.rules.specs.Network.{Network, Call, up, cost, down, deliver, outcome}
use Rattle.rules.specs.Network.{refusal_of, unit_at, queue, is_up, next_message, bad_ends, overflows}
use Rattle.rules.specs.NetworkTable.{network_refusal, fresh_network_refusal}
use Rattle.rules.specs.Tables.{network_words, network_bytes, network_from, fit_tables}
use Rattle.rules.specs.Unit.{Unit, awaits}
use Rattle.frames.specs.Meter.{enters, moves, drops}
use Rattle.meter.specs.Fates.{fate_of, HeldInside}
use Rattle.meter.specs.declared.calls.Fate.{Fate}
use Rattle.lines.specs.declared.Command.{Command}
use Rattle.lines.specs.declared.Command.TheVariants.{Units, Up, Cost, Down, Deliver, Show, Enter, Move, Drop, Page, Bad}
use Rattle.texts.specs.Printed.{refused_line, bad_line}
use Rattle.slices.specs.Putting.{used_after, put_after}
use Rattle.slices.proofs.Putting.{Put, put_as}
use Rattle.script.specs.Acting.{act_number, verdict_said, act_meter, frame_number, frame_meter, fate_said}
use Rattle.script.specs.Answers.{verdict, printed, words_then, bytes_then, meter_then, command_with}
use Rattle.script.proofs.Fates.{said_fate}

-- A message's refusal is small.
message_small : (u : Unit) (m : Message) → message_refusal u m < answer_base
unfolding message_refusal
message_small u m =
    let copy = copy_of u.copies m.sender in
    otherwise_below (gives_below (holds_acknowledgment m && not (awaits u m.sender)) 10 (omega arith))
    (otherwise_below (gives_below (changes_nothing copy m.changes) 11 (omega arith))
    (gives_below (not (is_tree u.count m.sender (applied copy m.changes))) 12 (omega arith)))

module _ (net result : Network) where
  -- The refusal for a full queue.
  full_small : (overflows result gives 13) < answer_base
  full_small = gives_below (overflows result) 13 (omega arith)

  -- The refusal for ends that are no two units.
  ends_small : (a b : ℕ) → (bad_ends net.count a b gives 3) < answer_base
  ends_small a b = gives_below (bad_ends net.count a b) 3 (omega arith)

  -- The refusal for a link that is down.
  down_small : (a b : ℕ) → (not (is_up net a b) gives 6) < answer_base
  down_small a b = gives_below (not (is_up net a b)) 6 (omega arith)

  -- A call's refusal is small.
  call_small : (call : Call) → refusal_of net call result < answer_base
  unfolding refusal_of
  call_small (up a b ca cb) =
      otherwise_below (ends_small a b)
      (otherwise_below (gives_below (not (legal_cost ca && legal_cost cb)) 4 (omega arith))
      (otherwise_below (gives_below (is_up net a b) 5 (omega arith)) full_small))
  call_small (cost a b c) =
      otherwise_below (ends_small a b)
      (otherwise_below (gives_below (not (legal_cost c)) 4 (omega arith))
      (otherwise_below (down_small a b) full_small))
  call_small (down a b) = otherwise_below (ends_small a b) (otherwise_below (down_small a b) full_small)
  call_small (deliver a b) =
      otherwise_below (ends_small a b)
      (otherwise_below (down_small a b)
      (otherwise_below (gives_below (eqb (length (queue net a b)) 0) 8 (omega arith))
      (otherwise_below (message_small (unit_at net b) (next_message (queue net a b))) full_small)))

module _ (words bytes : List ℕ) where
  -- The refusal of a call on tables is small.
  refusal_small : (call : Call) → network_refusal words bytes call < answer_base
  unfolding network_refusal
  refusal_small call =
      let net = network_from words bytes in
      otherwise_below (gives_below (not (fit_tables words bytes)) 2 (omega arith)) (call_small net (outcome net call) call)

  -- So is that of the fresh network.
  fresh_small : (n : ℕ) → fresh_network_refusal words bytes n < answer_base
  fresh_small n =
      otherwise_below (gives_below (not (legal_count n)) 1 (omega arith))
      (gives_below (not (eqb (length words) network_words && eqb (length bytes) network_bytes)) 2 (omega arith))

-- The number of an answer, by its refusal.
accepted_answer : (refusal : ℕ) → refusal ≡ accepted → hub_answer refusal 0 ≡ answer_base
accepted_answer refusal none = if_true (eqb refusal accepted) (answer_base + 0) refusal (eq-eqb refusal accepted none)

refused_answer : (refusal : ℕ) → refusal ≢ accepted → hub_answer refusal 0 ≡ refusal
refused_answer refusal some = if_false (eqb refusal accepted) (answer_base + 0) refusal (ne_eqb refusal accepted some)

-- The answer of a call with a small refusal prints the verdict.
said_verdict : (refusal : ℕ) → refusal < answer_base → (done : Result ⊤ Refusal) → done_of done ≡ hub_answer refusal 0
    → verdict_said done ≡ verdict refusal
said_verdict refusal low (Ok done) e =
    ⊎_elim (λ none. rw (eq-eqb refusal accepted none))
    (λ some. absurd (omega (arith, low, e ∙ refused_answer refusal some)))
    (equal_or_not refusal accepted)
said_verdict refusal low (Err reason) e =
    ⊎_elim (λ none. absurd (omega (arith, number_below reason, e ∙ accepted_answer refusal none)))
    (λ some. rw (ne_eqb refusal accepted some) (ap refused_line (e ∙ refused_answer refusal some)))
    (equal_or_not refusal accepted)

-- An answer that is there is no other, and not none.
one_answer : {a b : ℕ} → Some a ≡ Some b → a ≡ b
one_answer e = ap (λ (answer : Option ℕ). unwrap_or answer 0) e

no_answer : {a : ℕ} → Some a ≡ None → ⊥
no_answer {a} e = none-some a (sym e)

-- What a command does and prints, once it is done.
abbrev Performed : (words bytes meter out : List ℕ) (used : ℕ) → Command → (then : ℕ) (words' bytes' meter' out' : List ℕ)
    → Type 0
Performed words bytes meter out used command then words' bytes' meter' out' =
    (then ≡ used_after used (printed words bytes meter command) out)
    × ((out' ≡ put_after used (printed words bytes meter command) out)
    × ((words' ≡ words_then words bytes command)
    × ((bytes' ≡ bytes_then words bytes command) × (meter' ≡ meter_then words bytes meter command))))

-- What a call of the network prints and leaves is what the command does.
abbrev Acted : (words bytes meter : List ℕ) → Command → Result ⊤ Refusal → Type 0
Acted words bytes meter command done =
    (verdict_said done ≡ printed words bytes meter command)
    × (act_meter words bytes (frame_meter words bytes meter command) command ≡ meter_then words bytes meter command)

acted : (words bytes meter : List ℕ) (command : Command) (done : Result ⊤ Refusal)
    → Some (done_of done) ≡ act_number words bytes command → Acted words bytes meter command done
unfolding printed meter_then act_meter frame_meter
acted words bytes meter (Units n) done e = (said_verdict _ (fresh_small words bytes n) done (one_answer e), refl)
acted words bytes meter (Up a b ca cb) done e = (said_verdict _ (refusal_small words bytes (up a b ca cb)) done (one_answer e), refl)
acted words bytes meter (Cost a b c) done e = (said_verdict _ (refusal_small words bytes (cost a b c)) done (one_answer e), refl)
acted words bytes meter (Down a b) done e = (said_verdict _ (refusal_small words bytes (down a b)) done (one_answer e), refl)
acted words bytes meter (Deliver a b) done e = (said_verdict _ (refusal_small words bytes (deliver a b)) done (one_answer e), refl)
acted words bytes meter Show done e = absurd (no_answer e)
acted words bytes meter (Enter size unit destination) done e = absurd (no_answer e)
acted words bytes meter (Move place unit) done e = absurd (no_answer e)
acted words bytes meter (Drop place) done e = absurd (no_answer e)
acted words bytes meter Page done e = absurd (no_answer e)
acted words bytes meter Bad done e = absurd (no_answer e)

-- What a call of the meter prints and leaves is what the command does.
abbrev Framed : (words bytes meter : List ℕ) → Command → Result Fate Refusal → Type 0
Framed words bytes meter command fate =
    (fate_said fate ≡ printed words bytes meter command)
    × ((words ≡ words_then words bytes command)
    × ((bytes ≡ bytes_then words bytes command)
    × (frame_meter words bytes meter command ≡ meter_then words bytes meter command)))

framed : (words bytes meter : List ℕ) (command : Command) (fate : Result Fate Refusal) → IfOk fate (λ found. HeldInside found)
    → Some (fate_of fate) ≡ frame_number words bytes meter command → Framed words bytes meter command fate
unfolding printed words_then bytes_then meter_then frame_number frame_meter
framed words bytes meter (Units n) fate inside e = absurd (no_answer e)
framed words bytes meter (Up a b ca cb) fate inside e = absurd (no_answer e)
framed words bytes meter (Cost a b c) fate inside e = absurd (no_answer e)
framed words bytes meter (Down a b) fate inside e = absurd (no_answer e)
framed words bytes meter (Deliver a b) fate inside e = absurd (no_answer e)
framed words bytes meter Show fate inside e = absurd (no_answer e)
framed words bytes meter (Enter size unit destination) fate inside e =
    (said_fate words bytes meter (enters size unit destination) fate inside (one_answer e), (refl, (refl, refl)))
framed words bytes meter (Move place unit) fate inside e =
    (said_fate words bytes meter (moves place unit) fate inside (one_answer e), (refl, (refl, refl)))
framed words bytes meter (Drop place) fate inside e =
    (said_fate words bytes meter (drops place) fate inside (one_answer e), (refl, (refl, refl)))
framed words bytes meter Page fate inside e = absurd (no_answer e)
framed words bytes meter Bad fate inside e = absurd (no_answer e)

-- What is no call, no `show` and no `page` is a bad line.
idle : (words bytes meter : List ℕ) (command : Command) → command ≢ Show → command ≢ Page
    → None ≡ frame_number words bytes meter command → None ≡ act_number words bytes command
    → (bad_line ≡ printed words bytes meter command)
    × (act_meter words bytes (frame_meter words bytes meter command) command ≡ meter_then words bytes meter command)
unfolding printed meter_then act_meter frame_number frame_meter
idle words bytes meter (Units n) d p tried e = absurd (none-some _ e)
idle words bytes meter (Up a b ca cb) d p tried e = absurd (none-some _ e)
idle words bytes meter (Cost a b c) d p tried e = absurd (none-some _ e)
idle words bytes meter (Down a b) d p tried e = absurd (none-some _ e)
idle words bytes meter (Deliver a b) d p tried e = absurd (none-some _ e)
idle words bytes meter Show d p tried e = absurd (d refl)
idle words bytes meter (Enter size unit destination) d p tried e = absurd (none-some _ tried)
idle words bytes meter (Move place unit) d p tried e = absurd (none-some _ tried)
idle words bytes meter (Drop place) d p tried e = absurd (none-some _ tried)
idle words bytes meter Page d p tried e = absurd (p refl)
idle words bytes meter Bad d p tried e = (refl, refl)

module _ (words bytes meter out : List ℕ) (used : ℕ) (command : Command) {then : ℕ} {out' : List ℕ} where
  -- A call of the meter is done, and its answer is put.
  pub fate_put : (fate : Result Fate Refusal) → Some (fate_of fate) ≡ frame_number words bytes meter command
      → IfOk fate (λ found. HeldInside found) → {meter' : List ℕ} → meter' ≡ frame_meter words bytes meter command
      → Put out used (fate_said fate) then out'
      → Performed words bytes meter out used command then words bytes meter' out'
  fate_put fate e inside left put =
      let all = framed words bytes meter command fate inside e in
      let laid = put_as out used all.0 put in
      (laid.0, (laid.1, (all.1.0, (all.1.1.0, left ∙ all.1.1.1))))

  -- What is asked of the network is asked once it is tried whether the meter is asked.
  module _ {meter₁ words' bytes' meter' : List ℕ} (tried : meter₁ ≡ frame_meter words bytes meter command) where
    -- A call of the network is done, and its answer is put.
    pub verdict_put : (done : Result ⊤ Refusal)
        → (Some (done_of done) ≡ act_number words bytes command)
        × ((words' ≡ words_then words bytes command)
        × ((bytes' ≡ bytes_then words bytes command) × (meter' ≡ act_meter words bytes meter₁ command)))
        → Put out used (verdict_said done) then out'
        → Performed words bytes meter out used command then words' bytes' meter' out'
    verdict_put done did put =
        let all = acted words bytes meter command done did.0 in
        let laid = put_as out used all.0 put in
        let left = did.1.1.1 ∙ ap (λ (m : List ℕ). act_meter words bytes m command) tried ∙ all.1 in
        (laid.0, (laid.1, (did.1.0, (did.1.1.0, left))))

    -- A bad line is put.
    pub bad_put : command ≢ Show → command ≢ Page → None ≡ frame_number words bytes meter command
        → (None ≡ act_number words bytes command)
        × ((words' ≡ words_then words bytes command)
        × ((bytes' ≡ bytes_then words bytes command) × (meter' ≡ act_meter words bytes meter₁ command)))
        → Put out used bad_line then out'
        → Performed words bytes meter out used command then words' bytes' meter' out'
    bad_put other more none did put =
        let all = idle words bytes meter command other more none did.0 in
        let laid = put_as out used all.0 put in
        let left = did.1.1.1 ∙ ap (λ (m : List ℕ). act_meter words bytes m command) tried ∙ all.1 in
        (laid.0, (laid.1, (did.1.0, (did.1.1.0, left))))

-- The command that was done is the line's.
pub line_done : (words bytes meter line out : List ℕ) (used : ℕ) {command : Command} {then : ℕ}
    {words' bytes' meter' out' : List ℕ} → command ≡ command_with meter line
    → Performed words bytes meter out used command then words' bytes' meter' out'
    → Performed words bytes meter out used (command_with meter line) then words' bytes' meter' out'
line_done words bytes meter line out used e did = rw (← e) did

-- A command that is no call of the network, and one that is no call of the meter.
pub not_acted : (words bytes meter : List ℕ) (command : Command)
    → ((n : ℕ) → command ≢ Units n) → ((a b ca cb : ℕ) → command ≢ Up a b ca cb)
    → ((a b c : ℕ) → command ≢ Cost a b c) → ((a b : ℕ) → command ≢ Down a b)
    → ((a b : ℕ) → command ≢ Deliver a b)
    → (None ≡ act_number words bytes command)
    × ((words ≡ words_then words bytes command)
    × ((bytes ≡ bytes_then words bytes command) × (meter ≡ act_meter words bytes meter command)))
unfolding words_then bytes_then act_meter
not_acted words bytes meter (Units n) u p c d e = absurd (u n refl)
not_acted words bytes meter (Up a b ca cb) u p c d e = absurd (p a b ca cb refl)
not_acted words bytes meter (Cost a b k) u p c d e = absurd (c a b k refl)
not_acted words bytes meter (Down a b) u p c d e = absurd (d a b refl)
not_acted words bytes meter (Deliver a b) u p c d e = absurd (e a b refl)
not_acted words bytes meter Show u p c d e = (refl, (refl, (refl, refl)))
not_acted words bytes meter (Enter size unit destination) u p c d e = (refl, (refl, (refl, refl)))
not_acted words bytes meter (Move place unit) u p c d e = (refl, (refl, (refl, refl)))
not_acted words bytes meter (Drop place) u p c d e = (refl, (refl, (refl, refl)))
not_acted words bytes meter Page u p c d e = (refl, (refl, (refl, refl)))
not_acted words bytes meter Bad u p c d e = (refl, (refl, (refl, refl)))

pub not_framed : (words bytes meter : List ℕ) (command : Command)
    → ((size unit destination : ℕ) → command ≢ Enter size unit destination)
    → ((place unit : ℕ) → command ≢ Move place unit) → ((place : ℕ) → command ≢ Drop place)
    → (None ≡ frame_number words bytes meter command) × (meter ≡ frame_meter words bytes meter command)
unfolding frame_number frame_meter
not_framed words bytes meter (Units n) e m d = (refl, refl)
not_framed words bytes meter (Up a b ca cb) e m d = (refl, refl)
not_framed words bytes meter (Cost a b c) e m d = (refl, refl)
not_framed words bytes meter (Down a b) e m d = (refl, refl)
not_framed words bytes meter (Deliver a b) e m d = (refl, refl)
not_framed words bytes meter Show e m d = (refl, refl)
not_framed words bytes meter (Enter size unit destination) e m d = absurd (e size unit destination refl)
not_framed words bytes meter (Move place unit) e m d = absurd (m place unit refl)
not_framed words bytes meter (Drop place) e m d = absurd (d place refl)
not_framed words bytes meter Page e m d = (refl, refl)
not_framed words bytes meter Bad e m d = (refl, refl)

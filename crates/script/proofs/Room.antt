-- What a line prints has room where the buffer has that of every answer left, and so is laid there.
use Prim.Native.Nat.{ℕ, ◌+◌, ◌*◌, ◌≤◌, ◌<◌}
use native.Mathlib.Nat.{le_refl}
use native.Mathlib.Omega.{arith}
use mathlib.Core.Bool.{true}
use mathlib.Core.List.{List, []}
use mathlib.Core.Path.{◌≡◌, refl}
use borrow.Author.Tests.{eq-eqb}
use lib.Dec.{eqb}
use lib.ListN.{length, length-append}
use Rattle.ground.specs.Limits.{unit_limit}
use Rattle.ground.specs.Refusal.{accepted}
use Rattle.ground.specs.Rows.{at, tab, joined, laid_after}
use Rattle.ground.proofs.Choices.{by_choice}
use Rattle.ground.proofs.Joined.{joined_most, joined_skip}
use Rattle.rules.specs.Network.{unit_at, up, cost, down, deliver}
use Rattle.rules.specs.NetworkTable.{network_refusal, fresh_network_refusal}
use Rattle.rules.specs.Tables.{network_from, fit_tables}
use Rattle.rules.specs.Unit.{Unit, is_active, own_distance, is_successor}
use Rattle.rules.proofs.Fit.{FitNetwork, fit_tables_of}
use Rattle.frames.specs.Meter.{MeterCall, enters, moves, drops, Fate, as_held, as_delivered, as_dropped, fate}
use Rattle.frames.specs.MeterTable.{meter_from, meter_refusal}
use Rattle.lines.specs.declared.Command.{Command}
use Rattle.lines.specs.declared.Command.TheVariants.{Units, Up, Cost, Down, Deliver, Show, Enter, Move, Drop, Page, Bad}
use Rattle.texts.specs.Printed.{ok_line, refused_line, state_line, line_room}
use Rattle.slices.specs.Putting.{used_after, put_after}
use Rattle.texts.proofs.Lengths.{state_most, pair_most, refused_most, held_most}
use Rattle.slices.proofs.Putting.{put_laid}
use Rattle.listing.specs.Shown.{pair_lines, unit_lines, shown, show_text}
use Rattle.listing.proofs.ShownUnits.{line_to}
use Rattle.paging.proofs.PageRoom.{page_most}
use Rattle.script.specs.Answers.{verdict, fate_text, frame_verdict, printed, command_with, answer_text, answer_room}

-- A unit's lines are no more than a line for each unit: the line of its state stands for that of the way to itself.
lines_most : (u : Unit) (i : ℕ) → i < u.count → u.count ≤ unit_limit → length (unit_lines i u) ≤ unit_limit * line_room
unfolding unit_lines pair_lines
lines_most u i l h =
    let none : line_to u i i ≡ [] = rw (eq-eqb i i refl) in
    omega (
      arith,
      length-append (state_line i (is_active u)) (joined (tab u.count (line_to u i))),
      state_most i (is_active u),
      joined_skip line_room u.count (line_to u i) short i none u.count l (le_refl u.count),
    )
  where
    short : (j : ℕ) → j < u.count → length (line_to u i j) ≤ line_room
    short j k =
        by_choice (λ (text : List ℕ). length text ≤ line_room) (eqb j i) [] _
        (λ t. omega arith)
        (λ t. pair_most u.count i j (own_distance u j) (at u.feasible j) (is_successor u j) h)

-- The lines of all units of a fit network.
shown_most : (words bytes : List ℕ) → fit_tables words bytes ≡ true → length (shown (network_from words bytes)) ≤ answer_room
unfolding shown
shown_most words bytes fit =
    let net = network_from words bytes in
    let known : FitNetwork net = fit_tables_of words bytes fit in
    omega (
      arith,
      known.high,
      joined_most (unit_limit * line_room) net.count (λ i. unit_lines i (unit_at net i))
          (λ i l.
          let same : (unit_at net i).count ≡ net.count = known.counts i l in
          lines_most (unit_at net i) i (omega arith) (omega (arith, known.high)))
          net.count (le_refl net.count),
    )

-- What `show` prints.
show_most : (words bytes : List ℕ) → length (show_text words bytes) ≤ answer_room
unfolding show_text
show_most words bytes =
    by_choice (λ (text : List ℕ). length text ≤ answer_room) (fit_tables words bytes) (shown (network_from words bytes))
    (refused_line 2)
    (shown_most words bytes)
    (λ unfit. omega (arith, refused_most 2))

-- The verdict of a call.
verdict_most : (refusal : ℕ) → length (verdict refusal) ≤ answer_room
verdict_most refusal =
    by_choice (λ (text : List ℕ). length text ≤ answer_room) (eqb refusal accepted) ok_line (refused_line refusal)
    (λ t. omega arith)
    (λ t. omega (arith, refused_most refusal))

-- What a call of a meter prints.
fate_most : (became : Fate) → length (fate_text became) ≤ answer_room
fate_most (as_held place) = omega (arith, held_most place)
fate_most as_delivered = omega arith
fate_most as_dropped = omega arith

frame_most : (words bytes meter : List ℕ) (call : MeterCall) → length (frame_verdict words bytes meter call) ≤ answer_room
frame_most words bytes meter call =
    let refusal = meter_refusal words bytes meter call in
    by_choice (λ (text : List ℕ). length text ≤ answer_room) (eqb refusal accepted) (fate_text (fate (meter_from meter) call))
    (refused_line refusal)
    (λ t. fate_most (fate (meter_from meter) call))
    (λ t. omega (arith, refused_most refusal))

-- Whatever a command prints.
pub printed_most : (words bytes meter : List ℕ) (command : Command) → length (printed words bytes meter command) ≤ answer_room
unfolding printed
printed_most words bytes meter (Units n) = verdict_most (fresh_network_refusal words bytes n)
printed_most words bytes meter (Up a b ca cb) = verdict_most (network_refusal words bytes (up a b ca cb))
printed_most words bytes meter (Cost a b c) = verdict_most (network_refusal words bytes (cost a b c))
printed_most words bytes meter (Down a b) = verdict_most (network_refusal words bytes (down a b))
printed_most words bytes meter (Deliver a b) = verdict_most (network_refusal words bytes (deliver a b))
printed_most words bytes meter Show = show_most words bytes
printed_most words bytes meter (Enter size unit destination) = frame_most words bytes meter (enters size unit destination)
printed_most words bytes meter (Move place unit) = frame_most words bytes meter (moves place unit)
printed_most words bytes meter (Drop place) = frame_most words bytes meter (drops place)
printed_most words bytes meter Page = omega (arith, page_most words bytes meter)
printed_most words bytes meter Bad = omega arith

-- So where the buffer has that room left, what a line prints is laid there whole.
pub answer_laid : (words bytes meter line out : List ℕ) (used : ℕ) → used + answer_room ≤ length out
    → let text = answer_text words bytes meter line in
    (used_after used text out ≡ used + length text) × (put_after used text out ≡ laid_after used text out)
answer_laid words bytes meter line out used room =
    put_laid out (answer_text words bytes meter line) used
    (omega (arith, printed_most words bytes meter (command_with meter line))) (refl, refl)

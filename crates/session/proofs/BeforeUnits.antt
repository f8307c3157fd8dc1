-- Tables of zeros are unfit, so before a good `units` every other command is refused with 2, and the tables stay.
use Prim.Native.Nat.{ℕ, ◌≤◌}
use native.Mathlib.Omega.{arith}
use mathlib.Core.Bool.{true, false}
use mathlib.Core.List.{List, [], ◌∷◌, ◌++◌, map, append_assoc}
use mathlib.Core.Path.{◌≡◌, refl, sym, ap, ◌∙◌}
use borrow.Author.Tests.{not-true}
use Rattle.ground.specs.Limits.{legal_count}
use Rattle.ground.specs.Rows.{at, joined}
use Rattle.ground.proofs.Lists.{at_zeros, parts}
use Rattle.ground.proofs.Tests.{not_yes}
use Rattle.lines.specs.declared.Command.{Command}
use Rattle.lines.specs.declared.Command.TheVariants.{Units, Up, Cost, Down, Deliver, Show, Enter, Move, Drop, Page, Bad}
use Rattle.listing.specs.Shown.{show_text}
use Rattle.frames.specs.Meter.{MeterCall, enters, moves, drops}
use Rattle.frames.specs.MeterTable.{fit_metered, meter_refusal, meter_after}
use Rattle.paging.specs.Page.{page_text}
use Rattle.rules.specs.Network.{Call, up, cost, down, deliver}
use Rattle.rules.specs.NetworkTable.{network_refusal, words_after, bytes_after, fresh_words, fresh_bytes}
use Rattle.rules.specs.Tables.{network_words, network_from, fit_tables}
use Rattle.rules.proofs.Fit.{fit_tables_of}
use Rattle.script.specs.Answers.{printed, words_then, bytes_then, meter_then, is_metered, command_with}
use Rattle.session.specs.BeforeUnits.{is_good_units, no_good_units, text_before_units}
use Rattle.session.specs.Input.{lines_text, start_words, start_bytes}

-- A table without a count is unfit.
unfit_without : (words bytes : List ℕ) → at words 0 ≡ 0 → fit_tables words bytes ≡ false
unfolding network_from
unfit_without words bytes none =
    not_yes (fit_tables words bytes) (λ fit.
    let low : 2 ≤ at words 0 = (fit_tables_of words bytes fit).low in
    omega arith)

-- The tables with which the program begins.
start_none : at start_words 0 ≡ 0
unfolding start_words
start_none = at_zeros network_words 0

pub start_unfit : fit_tables start_words start_bytes ≡ false
start_unfit = unfit_without start_words start_bytes start_none

module _ (words bytes meter : List ℕ) (unfit : fit_tables words bytes ≡ false) where
  -- What a command prints, and what it leaves.
  abbrev Refused : Command → Type 0
  Refused command =
      (printed words bytes meter command ≡ text_before_units command)
      × ((words_then words bytes command ≡ words)
      × ((bytes_then words bytes command ≡ bytes) × (meter_then words bytes meter command ≡ meter)))

  refused_2 : (call : Call) → network_refusal words bytes call ≡ 2
  unfolding network_refusal
  refused_2 call = rw unfit

  words_stay : (call : Call) → words_after words bytes call ≡ words
  unfolding words_after
  words_stay call = rw (refused_2 call)

  bytes_stay : (call : Call) → bytes_after words bytes call ≡ bytes
  unfolding bytes_after
  bytes_stay call = rw (refused_2 call)

  -- So are a meter's calls over them.
  frame_refused_2 : (call : MeterCall) → meter_refusal words bytes meter call ≡ 2
  unfolding meter_refusal fit_metered
  frame_refused_2 call = rw unfit

  meter_stays : (call : MeterCall) → meter_after words bytes meter call ≡ meter
  unfolding meter_after
  meter_stays call = rw (frame_refused_2 call)

  count_refused : (n : ℕ) → legal_count n ≡ false → Refused (Units n)
  unfolding printed words_then bytes_then meter_then text_before_units fresh_words fresh_bytes
  count_refused n bad = rw bad (refl, (refl, (refl, refl)))

  pub before_units : (command : Command) → is_good_units command ≡ false → Refused command
  unfolding printed words_then bytes_then meter_then text_before_units is_good_units show_text page_text fit_metered
  before_units (Units n) bad = count_refused n bad
  before_units (Up a b ca cb) bad =
      rw (refused_2 (up a b ca cb)) (refl, (words_stay (up a b ca cb), (bytes_stay (up a b ca cb), refl)))
  before_units (Cost a b c) bad =
      rw (refused_2 (cost a b c)) (refl, (words_stay (cost a b c), (bytes_stay (cost a b c), refl)))
  before_units (Down a b) bad =
      rw (refused_2 (down a b)) (refl, (words_stay (down a b), (bytes_stay (down a b), refl)))
  before_units (Deliver a b) bad =
      rw (refused_2 (deliver a b)) (refl, (words_stay (deliver a b), (bytes_stay (deliver a b), refl)))
  before_units Show bad = rw unfit (refl, (refl, (refl, refl)))
  before_units (Enter size unit destination) bad =
      let call = enters size unit destination in
      rw (frame_refused_2 call) (refl, (refl, (refl, meter_stays call)))
  before_units (Move place unit) bad =
      rw (frame_refused_2 (moves place unit)) (refl, (refl, (refl, meter_stays (moves place unit))))
  before_units (Drop place) bad =
      rw (frame_refused_2 (drops place)) (refl, (refl, (refl, meter_stays (drops place))))
  before_units Page bad = rw unfit (refl, (refl, (refl, refl)))
  before_units Bad bad = (refl, (refl, (refl, refl)))

-- So lines before a good `units` print that, and what follows them begins with the same tables.
pub lines_before : (meter : List ℕ) (lines more : List (List ℕ)) → no_good_units (is_metered meter) lines ≡ true
    → lines_text start_words start_bytes meter (lines ++ more)
    ≡ joined (map (λ line. text_before_units (command_with meter line)) lines) ++ lines_text start_words start_bytes meter more
unfolding lines_text no_good_units
lines_before meter [] more none = refl
lines_before meter (line ∷ lines) more none =
    let command = command_with meter line in
    let bad : is_good_units command ≡ false = not-true _ (search parts) in
    let did = before_units start_words start_bytes meter start_unfit command bad in
    rw (did.0, did.1.0, did.1.1.0, did.1.1.1)
    (ap (λ (l : List ℕ). text_before_units command ++ l) (lines_before meter lines more (search parts))
    ∙ sym (append_assoc (text_before_units command) (joined (map (λ l. text_before_units (command_with meter l)) lines)) _))

-- One turn takes the rest of a line and answers it if it is whole: what is lent then goes on as it would have.
use Prim.Native.Nat.{ℕ, suc, ◌+◌, ◌≤◌, ◌<◌}
use native.Mathlib.Nat.{le_refl}
use native.Mathlib.Numerals.{add-one}
use native.Mathlib.Omega.{arith}
use mathlib.Core.Bool.{Bool, true, false}
use mathlib.Core.List.{List, [], ◌∷◌}
use mathlib.Core.Logic.{⊎_elim}
use mathlib.Core.Path.{◌≡◌, refl, sym, ap, ◌∙◌}
use borrow.Author.Tests.{eq-eqb, le-leb, eqb-true, leb-true}
use lib.Dec.{eqb, leb}
use lib.ListN.{length, take, drop}
use lib.Seq.{length-sets, drop-cons, drop-drop}
use Rattle.ground.specs.Bytes.{newline}
use Rattle.std.specs.Prelude.{if◌then◌else◌}
use Rattle.ground.specs.Rows.{at}
use Rattle.ground.proofs.Choices.{by_choice}
use Rattle.ground.proofs.Lists.{parts}
use Rattle.ground.proofs.Tests.{yes_or_no, both_of, if_true, if_false}
use Rattle.slices.specs.Putting.{used_after, put_after}
use Rattle.script.specs.Answers.{words_then, bytes_then, meter_then, command_with, answer_text, answer_room}
use Rattle.session.specs.Lending.{kept_room, Lent, goes_on, is_ready, answered, kept, fed, feeding}
use Rattle.session.specs.Taking.{Taking, taken}

-- A place further for each byte.
taken_le : (input line : List ℕ) (held place : ℕ) → place ≤ (taken line held place input).place
unfolding taken
taken_le [] line held place = le_refl place
taken_le (byte ∷ input) line held place =
    by_choice (λ (t : Taking). place ≤ t.place) (eqb byte newline) _ _
    (λ ends. omega arith)
    (λ other. omega (arith, taken_le input (put_after held (byte ∷ []) line) (used_after held (byte ∷ []) line) (suc place)))

taken_some : (byte : ℕ) (input line : List ℕ) (held place : ℕ) → place < (taken line held place (byte ∷ input)).place
unfolding taken
taken_some byte input line held place =
    by_choice (λ (t : Taking). place < t.place) (eqb byte newline) _ _
    (λ ends. omega arith)
    (λ other. taken_le input (put_after held (byte ∷ []) line) (used_after held (byte ∷ []) line) (suc place))

pub taken_further : (line chunk : List ℕ) (held place : ℕ) → place < length chunk
    → place < (taken line held place (drop place chunk)).place
taken_further line chunk held place inside =
    rw (drop-cons chunk place 0 inside) (taken_some (at chunk place) (drop (suc place) chunk) line held place)

-- The line keeps its room, and what is held stays inside.
pub taken_inside : (input line : List ℕ) (held place : ℕ) → held ≤ length line
    → (taken line held place input).held ≤ length (taken line held place input).line
unfolding taken put_after
taken_inside [] line held place inside = inside
taken_inside (byte ∷ input) line held place inside =
    by_choice (λ (t : Taking). t.held ≤ length t.line) (eqb byte newline) _ _
    (λ ends. inside)
    (λ other.
    taken_inside input (put_after held (byte ∷ []) line) (used_after held (byte ∷ []) line) (suc place)
    (omega (arith, length-sets line held (byte ∷ []))))

-- What a test says that went well.
pub ready_held : (places held room used : ℕ) → goes_on places held room used ≡ true → held ≤ places
unfolding goes_on
ready_held places held room used ready =
    let all : places ≡ kept_room = eqb-true places kept_room (search parts) in
    omega (arith, leb-true held kept_room (search parts))

pub ready_told : {goes : Bool} (places held room used : ℕ) → goes ≡ goes_on places held room used → goes ≡ true
    → goes_on places held room used ≡ true
ready_told places held room used told test = sym told ∙ test

-- One more byte is held, and there is as much room.
ready_more : (line : List ℕ) (held byte room used : ℕ) → goes_on (length line) held room used ≡ true
    → goes_on (length (put_after held (byte ∷ []) line)) (used_after held (byte ∷ []) line) room used ≡ true
unfolding goes_on put_after
ready_more line held byte room used ready =
    let all : length line ≡ kept_room = eqb-true (length line) kept_room (search parts) in
    let few : held ≤ kept_room = leb-true held kept_room (search parts) in
    let left : leb (used + answer_room) room ≡ true = search parts in
    both_of _ (leb (used + answer_room) room)
    (both_of _ (leb (used_after held (byte ∷ []) line) kept_room)
    (eq-eqb _ kept_room (length-sets line held (byte ∷ []) ∙ all))
    (le-leb (used_after held (byte ∷ []) line) kept_room (omega arith)))
    left

-- What is told of bytes that were taken.
abbrev Told : (t : Taking) (line : List ℕ) (held place : ℕ) (whole : Bool) → Type 0
Told t line held place whole = (held ≡ t.held) × ((place ≡ t.place) × ((whole ≡ t.whole) × (line ≡ t.line)))

module _ (line chunk : List ℕ) (held place room used : ℕ) (ready : goes_on (length line) held room used ≡ true)
    {line' : List ℕ} {held' place' : ℕ} {whole : Bool}
    (told : Told (taken line held place (drop place chunk)) line' held' place' whole) where
  -- What is held lies in the line, and the place is further.
  pub turn_inside : held' ≤ length line'
  turn_inside =
      rw (told.0, told.1.1.1)
      (taken_inside (drop place chunk) line held place (ready_held (length line) held room used ready))

  pub turn_further : place < length chunk → place < place'
  turn_further inside = rw told.1.0 (taken_further line chunk held place inside)

module _ (words bytes meter out : List ℕ) (used : ℕ) (chunk : List ℕ) where
  abbrev lent_of : (line : List ℕ) (held place : ℕ) → Lent
  lent_of line held place =
      record {
        words = words;
        bytes = bytes;
        meter = meter;
        line = line;
        held = held;
        out = out;
        used = used;
        place = place;
      }

  -- The line is answered, if it is whole.
  abbrev answered_of : (line : List ℕ) (held place : ℕ) → Lent
  answered_of line held place =
      let text = answer_text words bytes meter (take held line) in
      let command = command_with meter (take held line) in
      record {
        words = words_then words bytes command;
        bytes = bytes_then words bytes command;
        meter = meter_then words bytes meter command;
        line = line;
        held = 0;
        out = put_after used text out;
        used = used_after used text out;
        place = place;
      }

  abbrev settled : Taking → Lent
  settled t = if t.whole then answered_of t.line t.held t.place else lent_of t.line t.held t.place

  -- What goes on from there.
  abbrev onward : Taking → Lent
  onward t = fed (settled t) (drop t.place chunk)

  module _ (byte : ℕ) (input line : List ℕ) (held place : ℕ) (ready : is_ready (lent_of line held place) ≡ true) where
    fed_newline : eqb byte newline ≡ true
        → fed (lent_of line held place) (byte ∷ input) ≡ fed (answered_of line held (suc place)) input
    unfolding fed answered
    fed_newline ends =
        if_true (is_ready (lent_of line held place)) _ _ ready
        ∙ ap (λ (l : Lent). fed l input)
        (if_true (eqb byte newline) (answered (lent_of line held place)) (kept (lent_of line held place) byte) ends)

    fed_other : eqb byte newline ≡ false
        → fed (lent_of line held place) (byte ∷ input)
        ≡ fed (lent_of (put_after held (byte ∷ []) line) (used_after held (byte ∷ []) line) (suc place)) input
    unfolding fed kept
    fed_other other =
        if_true (is_ready (lent_of line held place)) _ _ ready
        ∙ ap (λ (l : Lent). fed l input)
        (if_false (eqb byte newline) (answered (lent_of line held place)) (kept (lent_of line held place) byte) other)

  -- What is behind the next byte.
  behind : (byte place : ℕ) (input : List ℕ) → drop place chunk ≡ byte ∷ input → drop (suc place) chunk ≡ input
  behind byte place input e = rw (← add-one place) (sym (drop-drop 1 place chunk) ∙ ap (drop 1) e)

  line_fed : (input line : List ℕ) (held place : ℕ) → drop place chunk ≡ input → is_ready (lent_of line held place) ≡ true
      → fed (lent_of line held place) input ≡ onward (taken line held place input)
  unfolding taken
  line_fed [] line held place e ready = ap (fed (lent_of line held place)) (sym e)
  line_fed (byte ∷ input) line held place e ready =
      ⊎_elim
      (λ ends.
      fed_newline byte input line held place ready ends
      ∙ ap (fed (answered_of line held (suc place))) (sym (behind byte place input e))
      ∙ sym (ap onward (if_true (eqb byte newline) _ _ ends)))
      (λ other.
      fed_other byte input line held place ready other
      ∙ line_fed input (put_after held (byte ∷ []) line) (used_after held (byte ∷ []) line) (suc place)
      (behind byte place input e) (ready_more line held byte (length out) used ready)
      ∙ sym (ap onward (if_false (eqb byte newline) _ _ other)))
      (yes_or_no (eqb byte newline))

  told_same : (t : Taking) (line : List ℕ) (held place : ℕ) (whole : Bool) → Told t line held place whole
      → record { line = line; held = held; place = place; whole = whole } ≡ t
  told_same t line held place whole told =
      λ i. record { line = told.1.1.1 i; held = told.0 i; place = told.1.0 i; whole = told.1.1.0 i }

  module _ (line : List ℕ) (held place : ℕ) (ready : goes_on (length line) held (length out) used ≡ true)
      (line' : List ℕ) {held' place' : ℕ} {whole : Bool}
      (told : Told (taken line held place (drop place chunk)) line' held' place' whole) where
    -- The line is not whole,
    pub turn_open : whole ≡ false
        → feeding words bytes meter line' held' chunk place' out used ≡ feeding words bytes meter line held chunk place out used
    turn_open unended =
        ap onward (told_same _ line' held' place' false (told.0, (told.1.0, (sym unended ∙ told.1.1.0, told.1.1.1))))
        ∙ sym (line_fed (drop place chunk) line held place refl ready)

    -- or it is, and is answered.
    pub turn_whole : whole ≡ true → {words' bytes' meter' out' : List ℕ} {used' : ℕ}
        → (used' ≡ used_after used (answer_text words bytes meter (take held' line')) out)
        × ((out' ≡ put_after used (answer_text words bytes meter (take held' line')) out)
        × ((words' ≡ words_then words bytes (command_with meter (take held' line')))
        × ((bytes' ≡ bytes_then words bytes (command_with meter (take held' line')))
        × (meter' ≡ meter_then words bytes meter (command_with meter (take held' line'))))))
        → feeding words' bytes' meter' line' 0 chunk place' out' used' ≡ feeding words bytes meter line held chunk place out used
    turn_whole ends did =
        rw (did.0, did.1.0, did.1.1.0, did.1.1.1.0, did.1.1.1.1)
        (ap onward (told_same _ line' held' place' true (told.0, (told.1.0, (sym ends ∙ told.1.1.0, told.1.1.1))))
        ∙ sym (line_fed (drop place chunk) line held place refl ready))

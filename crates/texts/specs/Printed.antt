-- Rule: the lines that are printed, for the answer of a call and for a unit's state and ways.
-- Order: `line_room`, `is_some`, `member_text`: room, and successors put one by one (proofs/Lengths.antt, proofs/Successors.antt).
use Rattle.std.specs.Prelude.{ℕ, zero, suc, Bool, not, List, [], ◌∷◌, ◌++◌, eqb, length}
use Rattle.ground.specs.Bytes.{newline, space, comma, hyphen}
use Rattle.std.specs.Prelude.{if◌then◌else◌}
use Rattle.ground.specs.Limits.{far}
use Rattle.texts.specs.Texts.{decimal_of, long_decimal_of}
use Rattle.texts.specs.Texts.{ok_word, refused_word, bad_line_words, unit_word, active_word, passive_word}
use Rattle.texts.specs.Texts.{held_word, delivered_word, dropped_word}

-- "It prints `ok`, `refused n` or, for any other line, `bad line`."
abbrev pub refused_line : (number : ℕ) → List ℕ
refused_line number = refused_word ++ (space ∷ decimal_of number) ++ (newline ∷ [])

abbrev pub ok_line : List ℕ
ok_line = ok_word ++ (newline ∷ [])

abbrev pub bad_line : List ℕ
bad_line = bad_line_words ++ (newline ∷ [])

-- What became of a frame: held at its place, delivered, dropped.
abbrev pub held_line : (place : ℕ) → List ℕ
held_line place = held_word ++ (space ∷ decimal_of place) ++ (newline ∷ [])

abbrev pub delivered_line : List ℕ
delivered_line = delivered_word ++ (newline ∷ [])

abbrev pub dropped_line : List ℕ
dropped_line = dropped_word ++ (newline ∷ [])

-- A figure: its name and its value.
abbrev pub figure_line : (name : List ℕ) (value : ℕ) → List ℕ
figure_line name value = name ++ (space ∷ long_decimal_of value) ++ (newline ∷ [])

-- "Show prints for each unit its number and state"
abbrev pub state_text : (active : Bool) → List ℕ
state_text active = space ∷ (if active then active_word else passive_word)

abbrev pub state_line : (i : ℕ) (active : Bool) → List ℕ
state_line i active = unit_word ++ (space ∷ decimal_of i) ++ state_text active ++ (newline ∷ [])

-- "`-` for unreachable or none"
abbrev pub distance_text : (distance : ℕ) → List ℕ
distance_text distance = if eqb distance far then hyphen ∷ [] else decimal_of distance

-- "successors joined by commas": those below n of which p holds.
unfoldable pub joined_to : (n : ℕ) (p : ℕ → Bool) → List ℕ
joined_to zero p = []
joined_to (suc k) p =
    let before = joined_to k p in
    if p k then before ++ (if eqb (length before) 0 then [] else comma ∷ []) ++ decimal_of k else before

abbrev pub successors_text : (n : ℕ) (p : ℕ → Bool) → List ℕ
successors_text n p = if eqb (length (joined_to n p)) 0 then hyphen ∷ [] else joined_to n p

-- "then for each other destination: unit, destination, distance, feasible distance, successors"
abbrev pub pair_line : (n i j distance feasible : ℕ) (p : ℕ → Bool) → List ℕ
pair_line n i j distance feasible p =
    decimal_of i
    ++ (space ∷ decimal_of j)
    ++ (space ∷ distance_text distance)
    ++ (space ∷ distance_text feasible)
    ++ (space ∷ successors_text n p)
    ++ (newline ∷ [])

-- The room for one line: four decimals, and successors of at most 2 digits each.
abbrev pub line_room : ℕ
line_room = 128

-- One successor more, if it is one, where there are some before it or none.
abbrev pub is_some : List ℕ → Bool
is_some text = not (eqb (length text) 0)

abbrev pub member_text : (some : Bool) (k : ℕ) (member : Bool) → List ℕ
member_text some k member = if member then (if some then comma ∷ [] else []) ++ decimal_of k else []

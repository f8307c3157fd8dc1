-- Rule: texts are lists of bytes: decimals, and the words that are printed.
use Rattle.std.specs.Prelude.{ℕ, zero, suc, ◌+◌, ◌-◌, ◌/◌, ◌%◌, List, [], ◌∷◌, ◌++◌, ltb}
use Rattle.ground.specs.Bytes.{space, digit_zero}
use Rattle.std.specs.Prelude.{if◌then◌else◌}

-- A number's decimal, of at most `places` + 1 digits; a number of 32 bits has at most 10.
unfoldable pub digits_of : (places number : ℕ) → List ℕ
digits_of zero number = (digit_zero + number % 10) ∷ []
digits_of (suc places) number =
    if ltb number 10 then (digit_zero + number) ∷ []
    else digits_of places (number / 10) ++ ((digit_zero + number % 10) ∷ [])

abbrev pub decimal_room : ℕ
decimal_room = 10

abbrev pub decimal_of : ℕ → List ℕ
decimal_of number = digits_of (decimal_room - 1) number

-- The decimal of a number that may pass 32 bits.
abbrev pub long_room : ℕ
long_room = 20

abbrev pub long_decimal_of : ℕ → List ℕ
long_decimal_of number = digits_of (long_room - 1) number

-- The words of answers: ok, refused, bad line; unit, active, passive; held, delivered, dropped.
abbrev pub ok_word : List ℕ
ok_word = 111 ∷ 107 ∷ []

abbrev pub refused_word : List ℕ
refused_word = 114 ∷ 101 ∷ 102 ∷ 117 ∷ 115 ∷ 101 ∷ 100 ∷ []

abbrev pub bad_line_words : List ℕ
bad_line_words = 98 ∷ 97 ∷ 100 ∷ space ∷ 108 ∷ 105 ∷ 110 ∷ 101 ∷ []

abbrev pub unit_word : List ℕ
unit_word = 117 ∷ 110 ∷ 105 ∷ 116 ∷ []

abbrev pub active_word : List ℕ
active_word = 97 ∷ 99 ∷ 116 ∷ 105 ∷ 118 ∷ 101 ∷ []

abbrev pub passive_word : List ℕ
passive_word = 112 ∷ 97 ∷ 115 ∷ 115 ∷ 105 ∷ 118 ∷ 101 ∷ []

abbrev pub held_word : List ℕ
held_word = 104 ∷ 101 ∷ 108 ∷ 100 ∷ []

abbrev pub delivered_word : List ℕ
delivered_word = 100 ∷ 101 ∷ 108 ∷ 105 ∷ 118 ∷ 101 ∷ 114 ∷ 101 ∷ 100 ∷ []

abbrev pub dropped_word : List ℕ
dropped_word = 100 ∷ 114 ∷ 111 ∷ 112 ∷ 112 ∷ 101 ∷ 100 ∷ []

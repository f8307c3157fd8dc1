-- Rule: words of a line, as lists of bytes: where a word ends, decimals and the numbers that they are, and the commands' names.
use Rattle.std.specs.Prelude.{ℕ, zero, suc, ◌+◌, ◌-◌, ◌*◌, Bool, not, ◌&&◌, ◌||◌, List, [], ◌∷◌, eqb, ltb, leb, length, take, drop}
use Rattle.ground.specs.Bytes.{space, digit_zero}
use Rattle.ground.specs.Rows.{at, every, lowest}

-- "single spaces": a word goes to the next space, or to the end.
unfoldable pub word_end : List ℕ → ℕ
word_end line = lowest (length line) (λ i. eqb (at line i) space)

abbrev pub first_word : List ℕ → List ℕ
first_word line = take (word_end line) line

abbrev pub after_word : List ℕ → List ℕ
after_word line = drop (word_end line) line

-- "decimals of at most 9 digits without leading zeros"; the digit 0 alone is one.
abbrev pub digit_limit : ℕ
digit_limit = 9

abbrev pub is_digit : ℕ → Bool
is_digit c = leb digit_zero c && ltb c (digit_zero + 10)

unfoldable pub is_decimal : List ℕ → Bool
is_decimal word =
    leb 1 (length word)
    && leb (length word) digit_limit
    && (eqb (length word) 1 || not (eqb (at word 0) digit_zero))
    && every (length word) (λ i. is_digit (at word i))

-- The number that the first i digits of a word are, and that a word is.
unfoldable pub value_to : (word : List ℕ) (i : ℕ) → ℕ
value_to word zero = 0
value_to word (suc i) = value_to word i * 10 + (at word i - digit_zero)

abbrev pub value_of : List ℕ → ℕ
value_of word = value_to word (length word)

-- The names of commands: units, up, cost, down, deliver, show; and of a meter's: enter, move, drop, page.
abbrev pub units_name : List ℕ
units_name = 117 ∷ 110 ∷ 105 ∷ 116 ∷ 115 ∷ []

abbrev pub up_name : List ℕ
up_name = 117 ∷ 112 ∷ []

abbrev pub cost_name : List ℕ
cost_name = 99 ∷ 111 ∷ 115 ∷ 116 ∷ []

abbrev pub down_name : List ℕ
down_name = 100 ∷ 111 ∷ 119 ∷ 110 ∷ []

abbrev pub deliver_name : List ℕ
deliver_name = 100 ∷ 101 ∷ 108 ∷ 105 ∷ 118 ∷ 101 ∷ 114 ∷ []

abbrev pub show_name : List ℕ
show_name = 115 ∷ 104 ∷ 111 ∷ 119 ∷ []

abbrev pub enter_name : List ℕ
enter_name = 101 ∷ 110 ∷ 116 ∷ 101 ∷ 114 ∷ []

abbrev pub move_name : List ℕ
move_name = 109 ∷ 111 ∷ 118 ∷ 101 ∷ []

abbrev pub drop_name : List ℕ
drop_name = 100 ∷ 114 ∷ 111 ∷ 112 ∷ []

abbrev pub page_name : List ℕ
page_name = 112 ∷ 97 ∷ 103 ∷ 101 ∷ []

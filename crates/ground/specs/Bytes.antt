-- Words: bytes that have a meaning in what is read and printed: the end of a line, the space, the comma, the hyphen, the
-- digit 0.
use Rattle.std.specs.Prelude.{ℕ}

abbrev pub newline : ℕ
newline = 10

abbrev pub space : ℕ
space = 32

abbrev pub comma : ℕ
comma = 44

abbrev pub hyphen : ℕ
hyphen = 45

abbrev pub digit_zero : ℕ
digit_zero = 48

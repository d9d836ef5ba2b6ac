-- Two, four and eight digits of a number, zeros in front included.
use Rattle.std.specs.Prelude.{ℕ, ◌+◌, ◌*◌, ◌/◌, ◌%◌, List, [], ◌∷◌, ◌++◌}

abbrev pub two_text : ℕ → List ℕ
two_text n = (48 + n / 10) ∷ (48 + n % 10) ∷ []

abbrev pub four_text : ℕ → List ℕ
four_text n = two_text (n / 100) ++ two_text (n % 100)

abbrev pub eight_text : ℕ → List ℕ
eight_text n = four_text (n / 10000) ++ four_text (n % 10000)

-- the bytes of four digits in one number, the first the lowest
abbrev pub four_bytes : ℕ → ℕ
four_bytes n = 48 + n / 100 / 10 + 256 * (48 + n / 100 % 10) + 65536 * (48 + n % 100 / 10 + 256 * (48 + n % 100 % 10))

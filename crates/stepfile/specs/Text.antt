-- Texts as lists of bytes: the bytes of a quoted text, and numbers in decimal.
use Rattle.std.specs.Prelude.{ℕ, zero, suc, ◌+◌, ◌/◌, ◌%◌, cond, List, [], ◌∷◌, ◌++◌, ltb}
use Prim.Native.Char.{code}
use Prim.Native.String.{String, [] as []ˢ, ◌∷◌ as ◌∷ˢ◌}

-- the bytes of a text of ASCII characters
abbrev pub bytes : String → List ℕ
bytes []ˢ = []
bytes (c ∷ˢ s) = code c ∷ bytes s

-- The digits of n, the most significant first: all but the last, then the last. The first number bounds how often
-- that goes on.
unfoldable pub digits_of : ℕ → ℕ → List ℕ
digits_of zero n = (48 + n) ∷ []
digits_of (suc k) n =
    let more = digits_of k (n / 10) ++ ((48 + n % 10) ∷ []) in
    cond (ltb n 10) ((48 + n) ∷ []) more

-- a number in decimal, with no leading zero; n has no more than n digits past the first
unfoldable pub decimal : ℕ → List ℕ
unfolding digits_of
decimal n = digits_of n n

-- a space and a number
abbrev pub argument_text : ℕ → List ℕ
argument_text n = 32 ∷ decimal n

-- numbers, each after a space
unfoldable pub values_text : List ℕ → List ℕ
values_text [] = []
values_text (v ∷ vs) = argument_text v ++ values_text vs

-- What is packed into a word stands in it. Assumes nothing.
use Prim.Native.Nat.{ℕ, ◌/◌}
use mathlib.Core.Path.{◌≡◌, refl}
use mathlib.Core.Bool.{Bool, true, false, cond}
use mathlib.Core.List.{List, [], ◌∷◌}
use native.Mathlib.Omega.{arith}
use lib.ListN.{length, get_or}
use Rattle.std.specs.Int.{to_le_bytes, w64, from_bool}
use Rattle.words.specs.Words.{digits}

-- the bytes of a number are its digits
pub bytes_held : (w : ℕ) → to_le_bytes w64 w ≡ digits 8 w
unfolding digits
bytes_held w =
    let b : w / 65536 ≡ w / 256 / 256 = omega arith in
    let c : w / 16777216 ≡ w / 256 / 256 / 256 = omega arith in
    let d : w / 4294967296 ≡ w / 256 / 256 / 256 / 256 = omega arith in
    let e : w / 1099511627776 ≡ w / 256 / 256 / 256 / 256 / 256 = omega arith in
    let f : w / 281474976710656 ≡ w / 256 / 256 / 256 / 256 / 256 / 256 = omega arith in
    let g : w / 72057594037927936 ≡ w / 256 / 256 / 256 / 256 / 256 / 256 / 256 = omega arith in
    rw (b, c, d, e, f, g)

-- a list of eight, one by one
pub eight {ℓ} :
    {A : Type ℓ} (d : A) (l : List A)
    → length l ≡ 8
    → get_or l 0 d ∷ get_or l 1 d ∷ get_or l 2 d ∷ get_or l 3 d ∷ get_or l 4 d ∷ get_or l 5 d ∷ get_or l 6 d ∷ get_or l 7 d ∷ [] ≡ l
eight d (a ∷ b ∷ c ∷ e ∷ f ∷ g ∷ h ∷ i ∷ []) n = refl
eight d [] n = absurd (omega arith)
eight d (a ∷ []) n = absurd (omega arith)
eight d (a ∷ b ∷ []) n = absurd (omega arith)
eight d (a ∷ b ∷ c ∷ []) n = absurd (omega arith)
eight d (a ∷ b ∷ c ∷ e ∷ []) n = absurd (omega arith)
eight d (a ∷ b ∷ c ∷ e ∷ f ∷ []) n = absurd (omega arith)
eight d (a ∷ b ∷ c ∷ e ∷ f ∷ g ∷ []) n = absurd (omega arith)
eight d (a ∷ b ∷ c ∷ e ∷ f ∷ g ∷ h ∷ []) n = absurd (omega arith)
eight d (a ∷ b ∷ c ∷ e ∷ f ∷ g ∷ h ∷ i ∷ j ∷ k) n = absurd (omega arith)

-- a test as a number
pub bit_held : (b : Bool) → from_bool b ≡ cond b 1 0
bit_held true = refl
bit_held false = refl

-- Reading a list of n elements, as an array is, at a place past its end; a list of one
-- value; and the length of an array of structs. Assumes nothing.
use Prim.Native.Nat.{ℕ, zero, suc, ◌≤◌}
use mathlib.Core.Path.{◌≡◌, refl, sym, ◌∙◌}
use mathlib.Core.List.{List, map}
use lib.ListN.{length, get_or, replicate, length-map, get_or-eq_default}

pub get_d_past {ℓ} : {A : Type ℓ} (d : A) (l : List A) (i n : ℕ)
    → length l ≡ n → n ≤ i → get_or l i d ≡ d
get_d_past d l i n len past = get_or-eq_default l d (rw len past)

pub get_d_alike {ℓ} : {A : Type ℓ} (n : ℕ) (a : A) (s : ℕ) → get_or (replicate n a) s a ≡ a
get_d_alike zero a s = refl
get_d_alike (suc n) a zero = refl
get_d_alike (suc n) a (suc s) = get_d_alike n a s

-- an array of structs has its length, which what owns it tells of another form of its elements
pub unmapped : (X Y : Type 0) (to : X → Y) (l : List X) (n : ℕ) → length (map to l) ≡ n → length l ≡ n
unmapped X Y to l n e = sym (length-map l to) ∙ e

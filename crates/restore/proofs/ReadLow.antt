-- Numbers in bytes, read: put together from their halves, and in a part of the bytes. Assumes nothing.
use Prim.Native.Nat.{ℕ, zero, suc, ◌+◌, ◌*◌, ◌≤◌, ◌<◌}
use mathlib.Core.Path.{◌≡◌, refl, ap, ◌∙◌}
use mathlib.Core.List.{List}
use native.Mathlib.Omega.{arith}
use lib.ListN.{take, drop}
use lib.Seq.{get_or-take, get_or-drop}
use Rattle.restore.specs.Decoded.{byte_at, number_at}

module _ (l : List ℕ) (at : ℕ) where
  pub number_two : byte_at l at + 256 * byte_at l (at + 1) ≡ number_at 2 l at
  unfolding number_at
  number_two = let next : at + 1 ≡ suc at = omega arith in rw next (omega arith)

  pub number_four : number_at 2 l at + 65536 * number_at 2 l (at + 2) ≡ number_at 4 l at
  unfolding number_at
  number_four = let half : at + 2 ≡ suc (suc at) = omega arith in rw half (omega arith)

  pub number_eight : number_at 4 l at + 4294967296 * number_at 4 l (at + 4) ≡ number_at 8 l at
  unfolding number_at
  number_eight = let half : at + 4 ≡ suc (suc (suc (suc at))) = omega arith in rw half (omega arith)

-- an entry of w bytes is a part of the bytes
module _ (w at : ℕ) (l : List ℕ) where
  pub byte_part : (j : ℕ) → j < w → byte_at (take w (drop at l)) j ≡ byte_at l (at + j)
  byte_part j inside = get_or-take w (drop at l) j 0 inside ∙ get_or-drop at l j 0

  pub number_part : (k j : ℕ) → j + k ≤ w → number_at k (take w (drop at l)) j ≡ number_at k l (at + j)
  unfolding number_at
  number_part zero j inside = refl
  number_part (suc k) j inside =
      let next : at + suc j ≡ suc (at + j) = omega arith in
      let rest = number_part k (suc j) (omega arith) ∙ ap (number_at k l) next in
      ap (λ x. x + 256 * number_at k (take w (drop at l)) (suc j)) (byte_part j (omega arith))
      ∙ ap (λ x. byte_at l (at + j) + 256 * x) rest

pub number_drop : (at : ℕ) (l : List ℕ) (k j : ℕ) → number_at k (drop at l) j ≡ number_at k l (at + j)
unfolding number_at
number_drop at l zero j = refl
number_drop at l (suc k) j =
    let next : at + suc j ≡ suc (at + j) = omega arith in
    ap (λ x. x + 256 * number_at k (drop at l) (suc j)) (get_or-drop at l j 0)
    ∙ ap (λ x. byte_at l (at + j) + 256 * x) (number_drop at l k (suc j) ∙ ap (number_at k l) next)

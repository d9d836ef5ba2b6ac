-- A list copied element by element. Assumes nothing.
use Prim.Native.Nat.{ℕ, ◌+◌, ◌≤◌, ◌<◌}
use mathlib.Core.Path.{◌≡◌, sym, ◌∙◌}
use mathlib.Core.List.{List}
use native.Mathlib.Omega.{arith}
use lib.ListN.{length, get_or, take, drop}
use lib.Seq.{ext_get_or, get_or-take, get_or-drop, length-take-le}
use Rattle.std.proofs.Common.{length-drop}
use Rattle.decision.specs.Lists.{stored}
use Rattle.decision.proofs.Storing.{stored_agree, stored_whole}
use Rattle.words.specs.Rows.{listed}
use Rattle.words.proofs.Listing.{length_listed, get_d_listed}

module _ {ℓ} {A : Type ℓ} (n : ℕ) (d : A) where
  -- a list is its elements by place
  pub listed_get_d : (l : List A) → length l ≡ n → listed n (λ i. get_or l i d) ≡ l
  listed_get_d l long =
      let size : length (listed n (λ i. get_or l i d)) ≡ n = length_listed n (λ i. get_or l i d) in
      ext_get_or d (listed n (λ i. get_or l i d)) l (size ∙ sym long)
      (λ i h. get_d_listed n (λ i. get_or l i d) d i (omega (arith, h, size)))

  -- what a loop leaves that stores element after element
  pub stored_listed : (g : ℕ → A) (l : List A) → length l ≡ n → stored n (λ i. i) g l ≡ listed n g
  stored_listed g l long =
      stored_agree n (λ i. i) g (λ i. get_or (listed n g) i d) l (λ i h. sym (get_d_listed n g d i h))
      ∙ stored_whole n d (listed n g) l (length_listed n g) long

  -- the n elements from a place on
  pub part_listed :
      (base : ℕ) (l : List A)
      → base + n ≤ length l
      → take n (drop base l) ≡ listed n (λ i. get_or l (base + i) d)
  part_listed base l fits =
      let g : ℕ → A = λ i. get_or l (base + i) d in
      let long = length-take-le n (drop base l) (omega (arith, length-drop base l, fits)) in
      ext_get_or d (take n (drop base l)) (listed n g) (long ∙ sym (length_listed n g))
      (λ i h.
      let below : i < n = omega (arith, h, long) in
      get_or-take n (drop base l) i d below ∙ get_or-drop base l i d ∙ sym (get_d_listed n g d i below))

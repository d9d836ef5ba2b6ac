-- A part of a list that is copied over another: it is stored one by one. Assumes nothing.
use Prim.Native.Nat.{ℕ, zero, suc, ◌+◌, ◌≤◌}
use mathlib.Core.Path.{◌≡◌, refl, sym, ap, ◌∙◌}
use mathlib.Core.List.{List, ◌++◌}
use native.Mathlib.Nat.{zero-add}
use native.Mathlib.Omega.{arith}
use borrow.Rule.Slice.PartMut.{put_mid}
use lib.ListN.{length, get_or, set, take, drop, length-drop}
use lib.Seq.{paste, paste-zero, paste-suc, length-take-le}
use Rattle.std.proofs.lemmas.List.{get_or-drop, take_all}
use Rattle.std.proofs.lemmas.Slice.{put_mid-paste}
use Rattle.decision.specs.Lists.{stored}

module _ {A : Type 0} where
  pub stored_pasted :
      (n at : ℕ) (to : ℕ → ℕ) (value : ℕ → A) (d : A) (l s : List A)
      → ((k : ℕ) → to k ≡ at + k)
      → ((k : ℕ) → value k ≡ get_or s k d)
      → at + n ≤ length l
      → n ≤ length s
      → paste l at s n ≡ stored n to value l
  unfolding stored
  stored_pasted zero at to value d l s place same room more = sym (paste-zero l at s)
  stored_pasted (suc n) at to value d l s place same room more =
      sym (paste-suc l at s n d (omega arith) (omega arith))
      ∙ (λ k. set (stored_pasted n at to value d l s place same (omega arith) (omega arith) k) (sym (place n) k) (sym (same n) k))

  -- the first n
  pub stored_first :
      (n : ℕ) (d : A) (l s : List A)
      → n ≤ length l
      → n ≤ length s
      → take n s ++ drop n l ≡ stored n (λ i. i) (λ i. get_or s i d) l
  stored_first n d l s room more =
      ap (λ k. take n s ++ drop k l) (sym (zero-add n))
      ∙ stored_pasted n 0 (λ i. i) (λ i. get_or s i d) d l s (λ k. sym (zero-add k)) (λ k. refl) (omega arith) more

  -- n from an offset on: part is what stands there then, for the list that was cut out
  pub stored_part :
      (n at : ℕ) (d : A) (l s part : List A) (k : ℕ)
      → part ≡ take k (drop at s)
      → k ≡ n
      → at + n ≤ length l
      → at + n ≤ length s
      → put_mid at k l part ≡ stored n (λ b. at + b) (λ b. get_or s (at + b) d) l
  stored_part n at d l s part k is long room more =
      let fits : n ≤ length (drop at s) = omega (arith, length-drop at s) in
      put_mid-paste at k l part (take n (drop at s)) n (is ∙ ap (λ k. take k (drop at s)) long) (sym long) (sym (length-take-le n (drop at s) fits))
      ∙ ap (λ x. take at l ++ x ++ drop (at + n) l) (take_all n (take n (drop at s)) (omega (arith, length-take-le n (drop at s) fits)))
      ∙ stored_pasted n at (λ b. at + b) (λ b. get_or s (at + b) d) d l (drop at s) (λ k. refl) (λ k. sym (get_or-drop at s k d)) room fits

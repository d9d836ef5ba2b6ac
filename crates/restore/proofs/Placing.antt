-- A loop that puts the entries of a section in their places, one after the other. Assumes nothing.
use Prim.Native.Nat.{ℕ, suc, ◌+◌, ◌-◌, ◌*◌, ◌≤◌, ◌<◌}
use mathlib.Core.Path.{◌≡◌, sym, ap, ◌∙◌}
use mathlib.Core.List.{List}
use native.Mathlib.Nat.{add-zero, mul-zero, mul-suc}
use native.Mathlib.Numerals.{add-one}
use native.Mathlib.Omega.{arith}
use lib.ListN.{take, drop}
use lib.Seq.{drop-drop}
use Rattle.restore.specs.Decoded.{number_at, entries_in, section_in, past_section, placed, opens_part, blocks_part, embargoes_part}
use Rattle.restore.proofs.ReadLow.{number_drop}

-- Of n entries of w bytes each, from offset at on in the bytes l, k are put in their places, which makes a of a₀. next
-- is the offset of the following one, and the rest gives what the whole was to give.
pub record Placing
    {A : Type 0}
    (put : List ℕ → A → A)
    (w : ℕ)
    (l : List ℕ)
    (at n : ℕ)
    (a₀ a : A)
    (next k : ℕ) : Type 0 where
  pub passed : k ≤ n
  pub offset : next ≡ at + w * k
  pub rest : placed put (entries_in w (n - k) (drop next l)) a ≡ placed put (entries_in w n (drop at l)) a₀

module _ {A : Type 0} {put : List ℕ → A → A} {w : ℕ} {l : List ℕ} {at n : ℕ} {a₀ : A} where
  pub placing_none : Placing put w l at n a₀ a₀ at 0
  placing_none =
      let all : n - 0 ≡ n = omega arith in
      record {
        passed = omega arith;
        offset = rw (mul-zero w) (sym (add-zero at));
        rest = ap (λ m. placed put (entries_in w m (drop at l)) a₀) all;
      }

  pub placing_next :
      {a a' : A} {next k : ℕ}
      → Placing put w l at n a₀ a next k
      → k < n
      → a' ≡ put (take w (drop next l)) a
      → Placing put w l at n a₀ a' (next + w) (k + 1)
  unfolding placed entries_in
  placing_next {a} {a'} {next} {k} h more put_is =
      let left : n - k ≡ suc (n - (k + 1)) = omega arith in
      record {
        passed = omega arith;
        offset = rw (add-one k, mul-suc w k) (omega (arith, h.offset));
        rest =
            ap (placed put (entries_in w (n - (k + 1)) (drop (next + w) l))) put_is
            ∙ ap (λ x. placed put (entries_in w (n - (k + 1)) x) (put (take w (drop next l)) a))
            (sym (drop-drop w next l))
            ∙ sym (ap (λ m. placed put (entries_in w m (drop next l)) a) left)
            ∙ h.rest;
      }

  pub placing_all :
      {a : A} {next k : ℕ} → Placing put w l at n a₀ a next k → n ≤ k → a ≡ placed put (entries_in w n (drop at l)) a₀
  unfolding placed entries_in
  placing_all {a} {next} {k} h past =
      let none : n - k ≡ 0 = omega arith in
      sym (ap (λ m. placed put (entries_in w m (drop next l)) a) none) ∙ h.rest

-- the count of the section that begins at an offset, the section, and the bytes past it
count_at : (l : List ℕ) (at : ℕ) → number_at 2 l at ≡ number_at 2 (drop at l) 0
count_at l at = ap (number_at 2 l) (sym (add-zero at)) ∙ sym (number_drop at l 2 0)

pub section_at :
    {A : Type 0} (put : List ℕ → A → A) (w : ℕ) (l : List ℕ) (at n : ℕ) (a : A)
    → n ≡ number_at 2 l at
    → placed put (entries_in w n (drop (at + 2) l)) a ≡ placed put (section_in w (drop at l)) a
section_at put w l at n a is =
    ap (λ x. placed put (entries_in w n x) a) (sym (drop-drop 2 at l))
    ∙ ap (λ k. placed put (entries_in w k (drop 2 (drop at l))) a) (is ∙ count_at l at)

pub past_at :
    (w : ℕ) (l : List ℕ) (at past : ℕ)
    → past ≡ at + (2 + w * number_at 2 l at)
    → drop past l ≡ past_section w (drop at l)
past_at w l at past is =
    ap (λ k. drop k l) (is ∙ ap (λ k. at + (2 + w * k)) (count_at l at))
    ∙ sym (drop-drop (2 + w * number_at 2 (drop at l) 0) at l)

-- where the sections begin: that of files stands at 5
module _ (l : List ℕ) (opens : ℕ) (second : opens ≡ 5 + (2 + 6 * number_at 2 l 5)) where
  pub opens_at : drop opens l ≡ opens_part l
  opens_at = past_at 6 l 5 opens second

  module _ (blocks : ℕ) (third : blocks ≡ opens + (2 + 5 * number_at 2 l opens)) where
    pub blocks_at : drop blocks l ≡ blocks_part l
    blocks_at = past_at 5 l opens blocks third ∙ ap (past_section 5) opens_at

    pub embargoes_at :
        (embargoes : ℕ) → embargoes ≡ blocks + (2 + 10 * number_at 2 l blocks) → drop embargoes l ≡ embargoes_part l
    embargoes_at embargoes fourth = past_at 10 l blocks embargoes fourth ∙ ap (past_section 10) blocks_at

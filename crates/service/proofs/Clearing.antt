-- Lists of flags of which some are cleared, whatever the places: a flag that is set afterwards was set before. It leads
-- to the places that are taken after each step. Assumes nothing.
use Prim.Native.Nat.{ℕ, zero, suc, ◌<◌}
use native.Mathlib.Nat.{not-suc-le-zero}
use native.Mathlib.Omega.{arith}
use mathlib.Core.Path.{◌≡◌, sym, ◌∙◌}
use mathlib.Core.Bool.{Bool, true, false}
use mathlib.Core.List.{List}
use lib.Dec.{eqb, ltb}
use lib.ListN.{length, get_or, set, get_or-eq_default}
use lib.Seq.{get_or-set_same, get_or-set_other}
use borrow.Author.Tests.{eqb-true, eqb-false, ltb-true, ltb-false}
use Rattle.decision.specs.Lists.{stored}
use Rattle.protocol.specs.Client.{kept}
use Rattle.service.proofs.Tests.{split, conflict}
use Rattle.service.proofs.Unknown.{set_or}

-- each flag of the second list that is set is set in the first
abbrev pub Fewer : List Bool → List Bool → Type 0
Fewer l l' = (q : ℕ) → get_or l' q false ≡ true → get_or l q false ≡ true

-- and each that is clear in the first is clear in the second
pub fewer_clear : (l l' : List Bool) (q : ℕ) → Fewer l l' → get_or l q false ≡ false → get_or l' q false ≡ false
fewer_clear l l' q fewer off = split (get_or l' q false) (λ on. conflict (fewer q on) off) (λ e. e)

-- ---- one flag

pub fewer_set : (l : List Bool) (p : ℕ) → Fewer l (set l p false)
fewer_set l p q on =
    split (eqb q p)
    (λ same. conflict on (rw (eqb-true q p same) (set_or l p false)))
    (λ other. sym (get_or-set_other l p q false false (eqb-false q p other)) ∙ on)

-- a flag that is clear after one was set was clear before
pub clear_set : (l : List Bool) (p q : ℕ) → get_or (set l p true) q false ≡ false → get_or l q false ≡ false
clear_set l p q off =
    split (eqb q p)
    (λ e.
    let same : q ≡ p = eqb-true q p e in
    split (ltb p (length l))
    (λ room. conflict (rw same (get_or-set_same l p true false (ltb-true p (length l) room))) off)
    (λ full. rw same (get_or-eq_default l false (ltb-false p (length l) full))))
    (λ other. sym (get_or-set_other l p q true false (eqb-false q p other)) ∙ off)

-- ---- n flags, at any places

pub fewer_stored : (n : ℕ) (at : ℕ → ℕ) (l : List Bool) → Fewer l (stored n at (λ k. false) l)
unfolding stored
fewer_stored zero at l q on = on
fewer_stored (suc n) at l q on =
    fewer_stored n at l q (fewer_set (stored n at (λ k. false) l) (at n) q on)

pub stored_clear :
    (n : ℕ) (at : ℕ → ℕ) (l : List Bool) (k : ℕ) → k < n → get_or (stored n at (λ j. false) l) (at k) false ≡ false
unfolding stored
stored_clear zero at l k h = absurd (not-suc-le-zero h)
stored_clear (suc n) at l k h =
    split (eqb k n)
    (λ e. rw (eqb-true k n e) (set_or (stored n at (λ j. false) l) (at n) false))
    (λ e.
    let other : k ≡ n → ⊥ = eqb-false k n e in
    fewer_clear (stored n at (λ j. false) l) (set (stored n at (λ j. false) l) (at n) false) (at k)
    (fewer_set (stored n at (λ j. false) l) (at n)) (stored_clear n at l k (omega arith)))

-- a copy that is kept or dropped
pub fewer_kept : (n : ℕ) (keep : Bool) (base : ℕ) (l : List Bool) → Fewer l (kept n keep false base l)
fewer_kept n true base l q on = on
fewer_kept n false base l q on = fewer_stored n _ l q on

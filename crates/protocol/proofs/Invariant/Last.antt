-- The last writer after a step: none, the client of the step, or the same as before. It leads to A2 and B3 after a
-- close, an answer, a grant, a crash and a report. Assumes nothing.
use Prim.Native.Nat.{ℕ, ◌<◌, ◌≤◌}
use mathlib.Core.Path.{◌≡◌, refl, sym, ◌∙◌, subst}
use mathlib.Core.Bool.{Bool, true, false, cond}
use native.Mathlib.Omega.{arith}
use lib.Dec.{eqb}
use borrow.Author.Tests.{eqb-true}
use Rattle.protocol.specs.declared.client.ClientFile.{ClientFile}
use Rattle.sizes.specs.Sizes.{nobody}
use Rattle.protocol.proofs.View.{at}
use Rattle.protocol.proofs.Invariant.{LastWriter}
use Rattle.protocol.proofs.Invariant.Flags.{split, change, at_same, at_other}

module _ {n : ℕ} {client : ℕ → ClientFile} {heard : ℕ → Bool} where
  pub last_none :
      n ≤ nobody
      → ((s : ℕ) → heard s ≡ true → (client s).marked ≡ true → ⊥)
      → LastWriter n nobody client heard
  last_none bound unmarked =
      record { named = λ s t m. absurd (unmarked s t m); holder = λ is. absurd (omega arith); unnamed = λ _. refl }

  pub last_one :
      (i : ℕ)
      → i < n
      → (client i).marked ≡ true
      → ((s : ℕ) → eqb s i ≡ false → (client s).marked ≡ true → ⊥)
      → LastWriter n i client heard
  last_one i below marked alone =
      record {
        named = λ s _ m. split (eqb s i) (λ e. sym (eqb-true s i e)) (λ e. absurd (alone s e m));
        holder = λ _. marked;
        unnamed = λ out. absurd (omega arith);
      }

  pub last_same :
      {last : ℕ} {client' : ℕ → ClientFile} {heard' : ℕ → Bool}
      → LastWriter n last client heard
      → ((s : ℕ) → heard' s ≡ true → (client' s).marked ≡ true → (heard s ≡ true) × ((client s).marked ≡ true))
      → ((s : ℕ) → (client s).marked ≡ true → (client' s).marked ≡ true)
      → LastWriter n last client' heard'
  last_same {last} h before after =
      record {
        named = λ s t m. let was = before s t m in h.named s was.0 was.1;
        holder = λ is. after last (h.holder is);
        unnamed = h.unnamed;
      }

-- Client i becomes c.
module _ {n : ℕ} {heard : ℕ → Bool} (client : ℕ → ClientFile) (i : ℕ) (c : ClientFile) where
  pub last_none_at :
      n ≤ nobody
      → (c.marked ≡ true → ⊥)
      → ((s : ℕ) → eqb s i ≡ false → (client s).marked ≡ true → ⊥)
      → LastWriter n nobody (at i c client) heard
  last_none_at bound own others =
      last_none bound (λ s _. change (λ s b. (cond b c (client s)).marked ≡ true → ⊥) i own others s)

  pub last_one_at :
      i < n
      → c.marked ≡ true
      → ((s : ℕ) → eqb s i ≡ false → (client s).marked ≡ true → ⊥)
      → LastWriter n i (at i c client) heard
  last_one_at below marked alone =
      last_one i below (subst (λ x. x.marked ≡ true) (sym (at_same i c client)) marked)
      (λ s e m. alone s e (subst (λ x. x.marked ≡ true) (at_other i s c client e) m))

  pub last_same_at :
      {last : ℕ}
      → LastWriter n last client heard
      → c.marked ≡ (client i).marked
      → LastWriter n last (at i c client) heard
  last_same_at h same =
      let marks = change (λ s b. (cond b c (client s)).marked ≡ (client s).marked) i same (λ _ _. refl) in
      last_same h (λ s t m. (t, sym (marks s) ∙ m)) (λ s m. marks s ∙ m)

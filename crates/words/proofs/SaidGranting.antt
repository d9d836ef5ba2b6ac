-- The open of another that is granted, said in four words, and read back. Assumes nothing.
use Prim.Native.Nat.{ℕ, suc, ◌+◌, ◌%◌, ◌≤◌, ◌<◌}
use mathlib.Core.Path.{◌≡◌, refl, sym, ap, ◌∙◌, subst}
use mathlib.Core.List.{List, [], ◌∷◌, ◌++◌, append_assoc}
use native.Mathlib.Nat.{mod-eq_of_lt}
use native.Mathlib.Omega.{arith}
use lib.ListN.{length, get_or, set, take, get_or-append}
use lib.Seq.{get_or_at, get_or-take, length-take-le}
use Rattle.protocol.specs.declared.reply.Grant.{Grant}
use Rattle.protocol.specs.Reply.{grant_values}
use Rattle.words.specs.Said.{grant_said, granting_said, Begun}
use Rattle.words.proofs.SaidWords.{begun_next, begun_at}

-- a grant that stands in words that are as they were
granting_kept :
    (ws ws' : List ℕ) (j : ℕ)
    → ((k : ℕ) → j ≤ k → k < j + 4 → get_or ws' k 0 ≡ get_or ws k 0)
    → granting_said ws' j ≡ granting_said ws j
granting_kept ws ws' j same =
    rw (
      same j (omega arith) (omega arith),
      same (j + 1) (omega arith) (omega arith),
      same (j + 1 + 1) (omega arith) (omega arith),
      same (j + 1 + 2) (omega arith) (omega arith),
    )

-- what was said after n words leaves those
word_kept :
    (ws ws' vs : List ℕ) (n m k : ℕ)
    → n ≤ length ws
    → n ≤ m
    → k < n
    → Begun ws m (take n ws ++ vs) ws'
    → get_or ws' k 0 ≡ get_or ws k 0
word_kept ws ws' vs n m k long more below begun =
    begun_at ws (take n ws ++ vs) ws' m k (omega arith) begun
    ∙ get_or-append (take n ws) vs 0 k (omega (arith, below, length-take-le n ws long))
    ∙ get_or-take n ws k 0 below

-- the client's word w and then the three of the grant, after the first `at` words
module _
    (ws ws' : List ℕ)
    (at who w : ℕ)
    (g : Grant)
    (fits : at + 4 ≤ length ws)
    (is : w ≡ who)
    (low : w < 256)
    (more : (words₀ vs : List ℕ) → Begun words₀ (at + 1) vs (set ws at w) → Begun words₀ (at + 1 + 3) (vs ++ grant_values g) ws')
    (there : grant_said ws' (at + 1) ≡ g)
  where
    pub granting-begun : (words₀ vs : List ℕ) → Begun words₀ at vs ws → Begun words₀ (at + 4) (vs ++ (who ∷ grant_values g)) ws'
    granting-begun words₀ vs b =
        let one : suc at ≡ at + 1 = omega arith in
        let four : at + 1 + 3 ≡ at + 4 = omega arith in
        let first : Begun words₀ (at + 1) (vs ++ (w ∷ [])) (set ws at w) =
        subst (λ n. Begun words₀ n (vs ++ (w ∷ [])) (set ws at w)) one (begun_next words₀ vs ws at w (omega arith) b) in
        let grouped : (vs ++ (w ∷ [])) ++ grant_values g ≡ vs ++ (who ∷ grant_values g) =
        append_assoc vs (w ∷ []) (grant_values g) ∙ ap (λ x. vs ++ (x ∷ grant_values g)) is in
        subst (λ (l : List ℕ). Begun words₀ (at + 4) l ws') grouped
        (subst (λ n. Begun words₀ n ((vs ++ (w ∷ [])) ++ grant_values g) ws') four (more words₀ (vs ++ (w ∷ [])) first))

    -- with the words that came
    now-begun : Begun ws (at + 4) (take at ws ++ (who ∷ grant_values g)) ws'
    now-begun = granting-begun ws (take at ws) (record { first = refl; long = refl; past = refl })

    pub granting-back : granting_said ws' at ≡ record { client = who; grant = g }
    granting-back =
        let word : get_or ws' at 0 ≡ who =
        begun_at ws (take at ws ++ (who ∷ grant_values g)) ws' (at + 4) at (omega arith) now-begun
        ∙ get_or_at (take at ws) who (grant_values g) 0 at (length-take-le at ws (omega arith)) in
        let same : get_or ws' at 0 % 256 ≡ who = ap (λ x. x % 256) (word ∙ sym is) ∙ mod-eq_of_lt low ∙ is in
        rw (same, there)

    pub earlier-back : (j : ℕ) → j + 4 ≤ at → granting_said ws' j ≡ granting_said ws j
    earlier-back j before =
        granting_kept ws ws' j
        (λ k a b. word_kept ws ws' (who ∷ grant_values g) at (at + 4) k (omega arith) (omega arith) (omega arith) now-begun)

-- A rest with no whole line: it has no LF, and may be cut short. Assumes nothing.
use Prim.Native.Nat.{ℕ, zero, suc, ◌≤◌, ◌<◌}
use mathlib.Core.Path.{◌≡◌, refl, sym, ap, ◌∙◌}
use mathlib.Core.Bool.{Bool, true, false, true≢false}
use mathlib.Core.List.{List, [], ◌∷◌, ◌++◌}
use native.Mathlib.Omega.{arith}
use lib.Dec.{eqb}
use lib.ListN.{length, take}
use lib.Seq.{length-take-le}
use Rattle.stepfile.specs.Grammar.{Reading, found, nothing, onward}
use Rattle.stepfile.specs.Input.{first_line}
use Rattle.sizes.proofs.Choosing.{when, unless, split}
use Rattle.stepfile.proofs.Splitting.{NoLF}
use Rattle.stepfile.proofs.LongLines.{Blind, transcript-of-long, after-long}
use Rattle.telling.specs.Lines.{Telling, said_over, state_after}

abbrev is_found : Reading (List ℕ) → Bool
is_found (found l r) = true
is_found nothing = false

-- what goes on from nothing is nothing, and only that
onward_nothing : (b : ℕ) (t : Reading (List ℕ)) → onward t (λ line rest. found (b ∷ line) rest) ≡ nothing → t ≡ nothing
onward_nothing b (found l r) e = absurd (true≢false (ap is_found e))
onward_nothing b nothing e = refl

pub no_lf : (d : List ℕ) → first_line d ≡ nothing → NoLF d
unfolding first_line
no_lf [] e = tt
no_lf (b ∷ d) e =
    split (eqb b 10)
    (λ lf. absurd (true≢false (ap is_found (sym (when _ _ lf) ∙ e))))
    (λ other. (other, no_lf d (onward_nothing b (first_line d) (sym (unless _ _ other) ∙ e))))

pub no_first : (d : List ℕ) → NoLF d → first_line d ≡ nothing
unfolding first_line
no_first [] h = refl
no_first (b ∷ d) h = unless _ _ h.0 ∙ ap (λ t. onward t (λ line rest. found (b ∷ line) rest)) (no_first d h.1)

pub no_lf_take : (n : ℕ) (d : List ℕ) → NoLF d → NoLF (take n d)
no_lf_take zero d h = tt
no_lf_take (suc n) [] h = tt
no_lf_take (suc n) (b ∷ d) h = (h.0, no_lf_take n d h.1)

-- a rest of 88 bytes or more that has no LF may be cut to 88
module _ {S : Type 0} (t : Telling S) (blind : Blind t.say t.next) (b : List ℕ) (none : NoLF b) (long : 88 ≤ length b) (s : S) (more : List ℕ) where
  cut_long : 87 < length (take 88 b)
  cut_long = rw (length-take-le 88 b long) (omega arith)

  pub transcript_cut : (n : ℕ) → said_over t s n (b ++ more) ≡ said_over t s n (take 88 b ++ more)
  transcript_cut n = transcript-of-long t.say t.next blind b (take 88 b) none (no_lf_take 88 b none) long cut_long more s n

  pub after_cut : (n : ℕ) → state_after t s n (b ++ more) ≡ state_after t s n (take 88 b ++ more)
  after_cut n = after-long t.say t.next blind b (take 88 b) none (no_lf_take 88 b none) long cut_long more s n

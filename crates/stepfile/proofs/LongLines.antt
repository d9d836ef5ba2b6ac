-- A line of more than 87 bytes may be cut short to any other such line: what is said of the input, and the state after it, are the
-- same. So a reader need not keep such a line whole. Assumes nothing.
use Prim.Native.Nat.{ℕ, ◌+◌, ◌<◌}
use mathlib.Core.Path.{◌≡◌, sym, ◌∙◌, ap}
use mathlib.Core.Bool.{Bool, false, cond, ◌&&◌}
use mathlib.Core.List.{List, [], ◌∷◌, ◌++◌}
use native.Mathlib.Omega.{arith}
use lib.Dec.{eqb}
use lib.ListN.{length, length-append}
use Rattle.service.specs.declared.outcome.Outcome.{Outcome}
use Rattle.service.specs.declared.service.Service.{Service}
use Rattle.stepfile.specs.Grammar.{parse_line}
use Rattle.stepfile.specs.Line.{line_text}
use Rattle.stepfile.specs.Transcript.{before, lines, transcript, after}
use Rattle.stepfile.specs.Played.{refused_with, set_outcome, outcome_of, reply_line, service_after}
use Rattle.stepfile.proofs.Longest.{no_setting, no_step}
use Rattle.stepfile.proofs.Splitting.{NoLF}

-- bytes before lines: the first of the lines goes on from them
abbrev front : List ℕ → List (List ℕ) → List (List ℕ)
front a [] = a ∷ []
front a (l ∷ ls) = (a ++ l) ∷ ls

before_front : (b : ℕ) (a : List ℕ) (ls : List (List ℕ)) → eqb b 10 ≡ false → before (eqb b 10) b (front a ls) ≡ front (b ∷ a) ls
before_front b a [] e = ap (λ t. before t b (a ∷ [])) e
before_front b a (l ∷ ls) e = ap (λ t. before t b ((a ++ l) ∷ ls)) e

before_byte : (b : ℕ) (ls : List (List ℕ)) → eqb b 10 ≡ false → before (eqb b 10) b ls ≡ front (b ∷ []) ls
before_byte b [] e = ap (λ t. before t b []) e
before_byte b (l ∷ ls) e = ap (λ t. before t b (l ∷ ls)) e

lines_front : (b : ℕ) (a r : List ℕ) → NoLF (b ∷ a) → lines ((b ∷ a) ++ r) ≡ front (b ∷ a) (lines r)
unfolding lines
lines_front b [] r h = before_byte b (lines r) h.0
lines_front b (x ∷ a) r h = ap (before (eqb b 10) b) (lines_front x a r h.1) ∙ before_front b (x ∷ a) (lines r) h.0

whole_front : (a r : List ℕ) → NoLF a → 87 < length a → lines (a ++ r) ≡ front a (lines r)
whole_front [] r none long = absurd (omega arith)
whole_front (b ∷ a) r none long = lines_front b a r none

-- what is said of a line of more than 87 bytes, and the state after it, do not depend on what the line is
pub record Blind {S : Type 0} (say : S → ℕ → List ℕ → List ℕ) (next : S → ℕ → List ℕ → S) : Type 0 where
  pub says : (s : S) (n : ℕ) (l m : List ℕ) → 87 < length l → 87 < length m → say s n l ≡ say s n m
  pub goes : (s : S) (n : ℕ) (l m : List ℕ) → 87 < length l → 87 < length m → next s n l ≡ next s n m

module _ {S : Type 0} (say : S → ℕ → List ℕ → List ℕ) (next : S → ℕ → List ℕ → S) (blind : Blind say next) where
  module _ (s : S) (n : ℕ) (l m : List ℕ) (l-long : 87 < length l) (m-long : 87 < length m) where
    transcript-alike : (ls : List (List ℕ)) → transcript say next s n (l ∷ ls) ≡ transcript say next s n (m ∷ ls)
    unfolding transcript
    transcript-alike ls =
        ap (λ t. t ++ transcript say next (next s n l) (n + 1) ls) (blind.says s n l m l-long m-long)
        ∙ ap (λ t. say s n m ++ transcript say next t (n + 1) ls) (blind.goes s n l m l-long m-long)

    after_alike : (ls : List (List ℕ)) → after next s n (l ∷ ls) ≡ after next s n (m ∷ ls)
    unfolding after
    after_alike ls = ap (λ t. after next t (n + 1) ls) (blind.goes s n l m l-long m-long)

  -- a and d are the starts of two such lines
  module _ (a d : List ℕ) (a-long : 87 < length a) (d-long : 87 < length d) where
    longer : (a l : List ℕ) → 87 < length a → 87 < length (a ++ l)
    longer a l long = rw (length-append a l) (omega arith)

    front-transcript : (s : S) (n : ℕ) (ls : List (List ℕ))
        → transcript say next s n (front a ls) ≡ transcript say next s n (front d ls)
    front-transcript s n [] = transcript-alike s n a d a-long d-long []
    front-transcript s n (l ∷ ls) = transcript-alike s n (a ++ l) (d ++ l) (longer a l a-long) (longer d l d-long) ls

    front-after : (s : S) (n : ℕ) (ls : List (List ℕ)) → after next s n (front a ls) ≡ after next s n (front d ls)
    front-after s n [] = after_alike s n a d a-long d-long []
    front-after s n (l ∷ ls) = after_alike s n (a ++ l) (d ++ l) (longer a l a-long) (longer d l d-long) ls

  module _ (a d : List ℕ) (a-none : NoLF a) (d-none : NoLF d) (a-long : 87 < length a) (d-long : 87 < length d) (r : List ℕ) (s : S) where
    pub transcript-of-long : (n : ℕ) → transcript say next s n (lines (a ++ r)) ≡ transcript say next s n (lines (d ++ r))
    transcript-of-long n =
        ap (transcript say next s n) (whole_front a r a-none a-long)
        ∙ front-transcript a d a-long d-long s n (lines r)
        ∙ sym (ap (transcript say next s n) (whole_front d r d-none d-long))

    pub after-long : (n : ℕ) → after next s n (lines (a ++ r)) ≡ after next s n (lines (d ++ r))
    after-long n =
        ap (after next s n) (whole_front a r a-none a-long)
        ∙ front-after a d a-long d-long s n (lines r)
        ∙ sym (ap (after next s n) (whole_front d r d-none d-long))

-- such a line is refused with 1, whatever its number
module _ (settable : Bool) where
  line_refused : (s : Service) (n : ℕ) (l : List ℕ) → 87 < length l
      → outcome_of settable s n l (parse_line l) ≡ cond (settable && eqb n 1) (refused_with s 1) (refused_with s 1)
  line_refused s n l long =
      ap (outcome_of settable s n l) (no_step l long)
      ∙ ap (λ t. cond (settable && eqb n 1) (set_outcome s t) (refused_with s 1)) (no_setting l long)

  pub outcome_alike :
      (s : Service) (n : ℕ) (l m : List ℕ) → 87 < length l → 87 < length m
      → outcome_of settable s n l (parse_line l) ≡ outcome_of settable s n m (parse_line m)
  outcome_alike s n l m l-long m-long = line_refused s n l l-long ∙ sym (line_refused s n m m-long)

  pub reply_blind : Blind (reply_line settable) (service_after settable)
  unfolding reply_line service_after
  reply_blind =
      record {
        says = λ s n l m l-long m-long.
            ap (λ (o : Outcome). line_text n o.reply o.calls o.grants) (outcome_alike s n l m l-long m-long);
        goes = λ s n l m l-long m-long. ap (λ (o : Outcome). o.service) (outcome_alike s n l m l-long m-long);
      }

-- What a reply tells of the records of a line: the opens that are granted. Assumes nothing.
use Prim.Native.Nat.{ℕ, zero, suc, ◌+◌, ◌*◌, ◌/◌, ◌%◌, ◌≤◌, ◌<◌}
use mathlib.Core.Path.{◌≡◌, refl, sym, ap, ◌∙◌}
use mathlib.Core.Bool.{Bool, true, false, cond, not, ◌&&◌, ◌||◌}
use mathlib.Core.List.{List, [], ◌++◌, append-nil}
use native.Mathlib.Omega.{arith}
use lib.Dec.{eqb, ltb}
use lib.ListN.{length, get_or, replicate, length-replicate}
use borrow.Author.Tests.{lt-ltb, le-ltb, eqb-true, ltb-false}
use Rattle.sizes.proofs.Choosing.{split, conflict, when, unless}
use Rattle.sizes.specs.Sizes.{max_files, nobody}
use Rattle.protocol.specs.declared.reply.Granting.{Granting}
use Rattle.protocol.specs.Reply.{brought, no_granting}
use Rattle.words.specs.Rows.{listed}
use Rattle.words.specs.Said.{letter_said, reply_said, granting_said, grants_from, grants_said}
use Rattle.words.proofs.Listing.{length_listed, get_d_listed}
use Rattle.trace.specs.Records.{open_record, open_records}

-- one of two numbers, of which the other is 0
pub all_or_none : (b : Bool) (most n : ℕ) → n ≡ cond b most 0 → n ≤ most
all_or_none true most n is = omega arith
all_or_none false most n is = omega arith

-- ---- the open that an answer granted

pub opened_answered :
    (said : ℕ) (words : List ℕ)
    → (eqb (letter_said said) 65 && not (eqb (said / 256) 1)) ≡ true
    → open_records (brought (reply_said said words)) ≡ open_record (get_or words 1 0 % 256)
unfolding open_records
opened_answered said words is =
    split (eqb (letter_said said) 65)
    (λ a.
    split (eqb (said / 256) 1) (λ o. conflict is (rw (a, o)))
    (λ o. rw (eqb-true (letter_said said) 65 a, o) (append-nil (open_record (get_or words 1 0 % 256)))))
    (λ a. conflict is (rw a))

pub none_answered :
    (said : ℕ) (words : List ℕ)
    → (eqb (letter_said said) 65 && not (eqb (said / 256) 1)) ≡ false
    → open_records (brought (reply_said said words)) ≡ []
unfolding open_records
none_answered said words left =
    split (eqb (letter_said said) 65)
    (λ a.
    split (eqb (said / 256) 1) (λ o. rw (eqb-true (letter_said said) 65 a, o)) (λ o. conflict (rw (a, o)) left))
    (λ a.
    split (eqb (letter_said said) 71) (λ g. rw g)
    (λ g.
    split (eqb (letter_said said) 87) (λ w. rw (g, w))
    (λ w.
    split (eqb (letter_said said) 86) (λ v. rw (g, w, v))
    (λ v. split (eqb (letter_said said) 78) (λ n. rw (g, w, v, n)) (λ n. rw (g, w, v, n, a))))))

-- ---- the opens that stand beside the reply

-- nobody's open stands in any place
nobody_opened :
    (n : ℕ) (g : ℕ → Granting) → ((k : ℕ) → k < n → g k ≡ no_granting) → open_records (listed n g) ≡ []
unfolding open_records listed
nobody_opened zero g none = refl
nobody_opened (suc n) g none =
    ap (λ (x : Granting). open_record x.client ++ open_records (listed n (λ k. g (suc k)))) (none 0 (omega arith))
    ∙ nobody_opened n (λ k. g (suc k)) (λ k h. none (suc k) (omega arith))

nobody_alike : (n : ℕ) → open_records (replicate n no_granting) ≡ []
unfolding open_records
nobody_alike zero = refl
nobody_alike (suc n) = nobody_alike n

-- too few words were said
too_few : (from count : ℕ) (words : List ℕ) → count ≤ from → open_records (grants_from from count words) ≡ []
too_few from count words few =
    nobody_opened max_files (λ k. cond (ltb (from + 4 * k) count) (granting_said words (from + 4 * k)) no_granting)
    (λ k h. unless (granting_said words (from + 4 * k)) no_granting (le-ltb (from + 4 * k) count (omega arith)))

-- so few words were said that nobody stands beside the reply
pub none_beside :
    (said : ℕ) (words : List ℕ)
    → ((eqb (letter_said said) 75 && ltb 0 (said / 256)) || (eqb (letter_said said) 65 && ltb 5 (said / 256))) ≡ false
    → open_records (grants_said said words) ≡ []
none_beside said words left =
    split (eqb (letter_said said) 75)
    (λ k.
    split (ltb 0 (said / 256)) (λ l. conflict (rw (k, l)) left)
    (λ l. rw k (too_few 0 (said / 256) words (ltb-false 0 (said / 256) l))))
    (λ k.
    split (eqb (letter_said said) 65)
    (λ a.
    split (ltb 5 (said / 256)) (λ l. conflict (rw (k, a, l)) left)
    (λ l. rw (k, a) (too_few 5 (said / 256) words (ltb-false 5 (said / 256) l))))
    (λ a. rw (k, a) (nobody_alike max_files)))

-- they stand in as many places as there can be files
pub length_beside : (said : ℕ) (words : List ℕ) → length (grants_said said words) ≡ max_files
length_beside said words =
    split (eqb (letter_said said) 75) (λ k. rw k (length_listed max_files _))
    (λ k.
    split (eqb (letter_said said) 65) (λ a. rw (k, a) (length_listed max_files _))
    (λ a. rw (k, a) (length-replicate max_files no_granting)))

-- the client that stands in place k, where so many words were said from a word on
module _ (from count : ℕ) (words : List ℕ) (k : ℕ) (below : k < max_files) where
  at_place :
      get_or (grants_from from count words) k no_granting
      ≡ cond (ltb (from + 4 * k) count) (granting_said words (from + 4 * k)) no_granting
  at_place =
      get_d_listed max_files (λ i. cond (ltb (from + 4 * i) count) (granting_said words (from + 4 * i)) no_granting) no_granting k below

  pub said_from : from + 4 * k < count → get_or words (from + 4 * k) 0 % 256 ≡ (get_or (grants_from from count words) k no_granting).client
  said_from said =
      sym
      (ap (λ (g : Granting). g.client)
      (at_place ∙ when (granting_said words (from + 4 * k)) no_granting (lt-ltb (from + 4 * k) count said)))

  pub none_from : count ≤ from + 4 * k → nobody ≡ (get_or (grants_from from count words) k no_granting).client
  none_from past =
      sym
      (ap (λ (g : Granting). g.client)
      (at_place ∙ unless (granting_said words (from + 4 * k)) no_granting (le-ltb (from + 4 * k) count past)))

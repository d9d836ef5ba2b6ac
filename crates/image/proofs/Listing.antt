-- A loop that writes the entries of a section one after the other, and the entries as the functions put them together.
-- Assumes nothing.
use Prim.Native.Nat.{ℕ, suc, ◌+◌, ◌*◌, ◌≤◌, ◌<◌}
use mathlib.Core.Path.{◌≡◌, refl, sym, ◌∙◌, ap}
use mathlib.Core.Bool.{Bool, true, false, not, ◌&&◌}
use mathlib.Core.List.{List, [], ◌∷◌, ◌++◌}
use native.Mathlib.Nat.{mul-suc, mul-le-mul_left}
use native.Mathlib.Numerals.{add-one}
use native.Mathlib.Omega.{arith}
use lib.Dec.{leb}
use lib.ListN.{length}
use Rattle.records.specs.declared.version.Version.{Version}
use Rattle.records.specs.Version.{number_of, as_read, is_first_version}
use Rattle.protocol.specs.declared.entry.Entry.{Entry}
use Rattle.writer.specs.Buffer.{Wrote}
use Rattle.writer.proofs.Buffers.{wrote_none, wrote_then, wrote_as}
use Rattle.image.specs.Bytes.{low, below, flat}
use Rattle.image.specs.Image.{version_read, last_read, is_listed, file_entry}
use Rattle.image.proofs.SectionLaws.{flat_next, flat_one, flat_none}

-- The invariant of a loop up to n: what x gives for the numbers below k is written into d from offset at on, w bytes at
-- most for each.
pub record Listing
    (w : ℕ)
    (x : ℕ → List (List ℕ))
    (n : ℕ)
    (d : List ℕ)
    (at : ℕ)
    (d' : List ℕ)
    (next k : ℕ) : Type 0 where
  pub passed : k ≤ n
  pub bytes : Wrote d at (flat (below k x)) d' next
  pub bound : next ≤ at + w * k
  pub same : length d' ≡ length d

module _ {w : ℕ} {x : ℕ → List (List ℕ)} {n : ℕ} {d : List ℕ} {at : ℕ} where
  pub listing_none : at ≤ length d → Listing w x n d at d at 0
  unfolding flat below
  listing_none fits =
      record { passed = omega arith; bytes = wrote_none d at fits; bound = omega arith; same = refl }

  module _ {d' : List ℕ} {next k : ℕ} (h : Listing w x n d at d' next k) where
    -- there is room for one more
    pub listing-room : (most : ℕ) → k < n → n ≤ most → at + w * most ≤ length d → next + w ≤ length d'
    listing-room most more small room =
        let all : w * suc k ≤ w * most = mul-le-mul_left w (omega arith) in
        omega (arith, h.bound, h.same, mul-suc w k)

    pub listing-next :
        {d'' : List ℕ} {past : ℕ}
        → k < n
        → Wrote d' next (flat (x k)) d'' past
        → past ≤ next + w
        → length d'' ≡ length d'
        → Listing w x n d at d'' past (k + 1)
    listing-next {d''} {past} more wrote most kept =
        record {
          passed = omega arith;
          bytes = wrote_as (sym (flat_next k x)) (wrote_then h.bytes wrote);
          bound = rw (add-one k, mul-suc w k) (omega (arith, h.bound));
          same = kept ∙ h.same;
        }

    pub listing-all :
        (most : ℕ) → n ≤ k → n ≤ most → Wrote d at (flat (below n x)) d' next × (next ≤ at + w * most)
    listing-all most past small =
        let last : k ≡ n = omega (arith, h.passed) in
        let all : w * k ≤ w * most = mul-le-mul_left w (omega (arith, h.passed)) in
        (wrote_as (ap (λ k. flat (below k x)) last) h.bytes, omega (arith, h.bound))

-- the entry of a file, by whether it is listed; v is its version as it is read, with the number k, and l its last writer
module _
    (n f : ℕ)
    (e : Entry)
    (v : Version)
    (read : v ≡ as_read e.version)
    (first : Bool)
    (is-first : first ≡ is_first_version v) where
  abbrev Unlisted : Bool → Type 0
  Unlisted t = (first && leb n e.last) ≡ t

  same_test : (t : Bool) → Unlisted t → is_listed n e ≡ not t
  same_test t h =
      ap (λ b. not (b && leb n e.last)) (sym (is-first ∙ ap is_first_version read)) ∙ ap not h

  pub file_unlisted : Unlisted true → [] ≡ flat (file_entry n f e)
  file_unlisted h = flat_none _ _ (same_test true h)

  pub file_listed :
      Unlisted false
      → (k l : ℕ)
      → k ≡ number_of v
      → l ≡ last_read n e
      → f ∷ (low 4 k ++ (l ∷ [])) ≡ flat (file_entry n f e)
  file_listed h k l number last =
      ap (λ k. f ∷ (low 4 k ++ (l ∷ []))) (number ∙ ap number_of read)
      ∙ ap (λ l. f ∷ (low 4 (version_read e) ++ (l ∷ []))) last
      ∙ flat_one _ _ (same_test false h)

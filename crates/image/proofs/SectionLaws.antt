-- Sections: their entries one after the other, their lengths, and the count before them. Assumes nothing.
use Prim.Native.Nat.{ℕ, zero, suc, ◌+◌, ◌-◌, ◌*◌, ◌/◌, ◌%◌, ◌<◌}
use mathlib.Core.Path.{◌≡◌, refl, sym, ◌∙◌, ap}
use mathlib.Core.Bool.{Bool, true, false}
use mathlib.Core.List.{List, [], ◌∷◌, ◌++◌, append_assoc, append-nil}
use native.Mathlib.Nat.{mul-zero, mul-suc, mul-div_cancel_left}
use native.Mathlib.Numerals.{add-one}
use native.Mathlib.Omega.{arith}
use lib.ListN.{length, get_or, set, length-append}
use Rattle.records.specs.Record.{is_open}
use Rattle.sizes.specs.declared.sizes.Sizes.{Sizes}
use Rattle.sizes.specs.Sizes.{place}
use Rattle.protocol.specs.declared.entry.Entry.{Entry}
use Rattle.protocol.specs.Entry.{record_at}
use Rattle.table.specs.TableStep.{entry_of, is_embargoed}
use Rattle.writer.specs.Buffer.{written, Wrote}
use Rattle.writer.proofs.Buffers.{written_before}
use Rattle.image.specs.Bytes.{low, below, entry_if, flat, section}
use Rattle.image.specs.Image.{is_listed, file_bytes, file_entry, file_entries, open_bytes, open_entry, file_opens}
use Rattle.image.specs.Image.{open_entries, block_bytes, block_entry, file_blocks, block_entries, embargo_bytes}
use Rattle.image.specs.Image.{embargo_entry, embargo_entries}

-- one more of the numbers below n
pub below_next {ℓ} : {A : Type ℓ} (n : ℕ) (x : ℕ → List A) → below (n + 1) x ≡ below n x ++ x n
unfolding below
below_next n x = rw add-one

pub flat_append : (xs ys : List (List ℕ)) → flat (xs ++ ys) ≡ flat xs ++ flat ys
unfolding flat
flat_append [] ys = refl
flat_append (e ∷ xs) ys = rw (flat_append xs ys, append_assoc e (flat xs) (flat ys))

pub flat_next : (n : ℕ) (x : ℕ → List (List ℕ)) → flat (below (n + 1) x) ≡ flat (below n x) ++ flat (x n)
flat_next n x = ap flat (below_next n x) ∙ flat_append (below n x) (x n)

-- the bytes of one entry, and of none
pub flat_one : (t : Bool) (e : List ℕ) → t ≡ true → e ≡ flat (entry_if t e)
unfolding flat
flat_one t e holds = rw (holds, append-nil)

pub flat_none : (t : Bool) (e : List ℕ) → t ≡ false → [] ≡ flat (entry_if t e)
unfolding flat
flat_none t e fails = rw fails

-- each entry has w bytes
abbrev pub Wide : ℕ → List (List ℕ) → Type 0
Wide w [] = Unit {0}
Wide w (e ∷ es) = (length e ≡ w) × Wide w es

wide_append : (w : ℕ) (xs ys : List (List ℕ)) → Wide w xs → Wide w ys → Wide w (xs ++ ys)
wide_append w [] ys p q = q
wide_append w (e ∷ xs) ys (h, p) q = (h, wide_append w xs ys p q)

wide_if : (w : ℕ) (t : Bool) (e : List ℕ) → length e ≡ w → Wide w (entry_if t e)
wide_if w true e h = (h, tt)
wide_if w false e h = tt

wide_below : (w n : ℕ) (x : ℕ → List (List ℕ)) → ((k : ℕ) → Wide w (x k)) → Wide w (below n x)
unfolding below
wide_below w zero x h = tt
wide_below w (suc n) x h = wide_append w (below n x) (x n) (wide_below w n x h) (h n)

pub wide_files : (z : Sizes) (entries : List Entry) → Wide 6 (file_entries z entries)
unfolding low
wide_files z entries =
    wide_below 6 z.files (λ f. file_entry z.clients f (entry_of entries f))
    (λ f.
    let e = entry_of entries f in
    wide_if 6 (is_listed z.clients e) (file_bytes z.clients f e) refl)

pub wide_opens : (z : Sizes) (entries : List Entry) → Wide 5 (open_entries z entries)
wide_opens z entries =
    wide_below 5 z.files (λ f. file_opens z.clients f (entry_of entries f))
    (λ f.
    wide_below 5 z.clients (λ i. open_entry i f (record_at (entry_of entries f) i))
    (λ i.
    let r = record_at (entry_of entries f) i in
    wide_if 5 (is_open r) (open_bytes i f r) refl))

pub wide_blocks : (z : Sizes) (used : List Bool) (blocks : List ℕ) → Wide 10 (block_entries z used blocks)
unfolding low
wide_blocks z used blocks =
    wide_below 10 z.files (λ f. file_blocks z.blocks f used blocks)
    (λ f.
    wide_below 10 z.blocks (λ b. block_entry f b (get_or used (place f b) false) (get_or blocks (place f b) 0))
    (λ b. wide_if 10 (get_or used (place f b) false) (block_bytes f b (get_or blocks (place f b) 0)) refl))

pub wide_embargoes : (z : Sizes) (embargoed : List Bool) → Wide 1 (embargo_entries z embargoed)
wide_embargoes z embargoed =
    wide_below 1 z.clients (λ i. embargo_entry i (is_embargoed embargoed i))
    (λ i. wide_if 1 (is_embargoed embargoed i) (embargo_bytes i) refl)

pub length_flat : (w : ℕ) (es : List (List ℕ)) → Wide w es → length (flat es) ≡ w * length es
unfolding flat
length_flat w [] h = sym (mul-zero w)
length_flat w (e ∷ es) (h, hs) =
    omega (arith, length-append e (flat es), length_flat w es hs, mul-suc w (length es))

-- the count stands before the entries: it is how many there are in the bytes from at + 2 on
module _ (w : ℕ) (some : 0 < w) (es : List (List ℕ)) (wide : Wide w es) where
  count_is : (at past : ℕ) → past ≡ at + 2 + length (flat es) → (past - (at + 2)) / w ≡ length es
  count_is at past e =
      let bytes : past - (at + 2) ≡ w * length es = omega (arith, e, length_flat w es wide) in
      ap (λ k. k / w) bytes ∙ mul-div_cancel_left (length es) some

  pub counted :
      {d : List ℕ} {at : ℕ} {d₁ : List ℕ} {past : ℕ} {d₂ : List ℕ}
      → Wrote d (at + 2) (flat es) d₁ past
      → d₂ ≡ set (set d₁ (at + 1) ((past - (at + 2)) / w / 256 % 256)) at ((past - (at + 2)) / w % 256)
      → Wrote d at (section es) d₂ past
  unfolding low
  counted {d} {at} {d₁} {past} {d₂} wrote stored =
      let s = flat es in
      let n = length es in
      let high = n / 256 % 256 in
      let two : at + 2 ≡ suc (at + 1) = omega arith in
      let one : at + 1 ≡ suc at = omega arith in
      let first : at < length d = omega (arith, wrote.fits) in
      let second : at + 1 < length d = omega (arith, wrote.fits) in
      record {
        bytes =
            stored
            ∙ ap (λ k. set (set d₁ (at + 1) (k / 256 % 256)) at (k % 256)) (count_is at past wrote.next)
            ∙ ap (λ l. set (set l (at + 1) high) at (n % 256)) (wrote.bytes ∙ ap (λ k. written d k s) two)
            ∙ ap (λ l. set l at (n % 256))
            (written_before d (at + 1) high s second ∙ ap (λ k. written d k (high ∷ s)) one)
            ∙ written_before d at (n % 256) (high ∷ s) first;
        next = omega (arith, wrote.next);
        fits = omega (arith, wrote.fits);
      }

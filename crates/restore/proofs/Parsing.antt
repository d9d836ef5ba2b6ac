-- The bytes of an image, read from left to right: its sections give back their entries. Assumes nothing.
use Prim.Native.Nat.{ℕ, zero, suc, ◌+◌, ◌*◌, ◌≤◌, ◌<◌}
use mathlib.Core.Path.{◌≡◌, refl, ap, ◌∙◌}
use mathlib.Core.Bool.{Bool, true, false}
use mathlib.Core.List.{List, [], ◌∷◌, ◌++◌, append_assoc}
use native.Mathlib.Nat.{mul-suc}
use native.Mathlib.Omega.{arith}
use lib.Dec.{lit≤}
use lib.ListN.{length, get_or, take, drop, length-append}
use lib.Seq.{take_at, drop_at}
use Rattle.records.specs.Record.{is_open}
use Rattle.sizes.specs.declared.sizes.Sizes.{Sizes}
use Rattle.sizes.specs.Sizes.{place, Permitted}
use Rattle.protocol.specs.declared.entry.Entry.{Entry}
use Rattle.protocol.specs.Entry.{record_at}
use Rattle.table.specs.TableStep.{entry_of, is_embargoed}
use Rattle.image.specs.Bytes.{low, below, entry_if, flat, section}
use Rattle.image.specs.Image.{is_listed, file_bytes, file_entry, file_entries, open_bytes, open_entry, file_opens, open_entries}
use Rattle.image.specs.Image.{block_bytes, block_entry, file_blocks, block_entries, embargo_bytes, embargo_entry}
use Rattle.image.specs.Image.{embargo_entries}
use Rattle.image.proofs.SectionLaws.{Wide, length_flat}
use Rattle.restore.specs.Decoded.{number_at, entries_in, section_in, past_section}

-- ---- the number of entries

short_if : (t : Bool) (e : List ℕ) → length (entry_if t e) ≤ 1
short_if true e = lit≤ tt
short_if false e = lit≤ tt

short_below :
    (m n : ℕ) (x : ℕ → List (List ℕ)) → ((k : ℕ) → length (x k) ≤ m) → length (below n x) ≤ m * n
unfolding below
short_below m zero x h = omega arith
short_below m (suc n) x h =
    omega (arith, length-append (below n x) (x n), short_below m n x h, h n, mul-suc m n)

module _ {z : Sizes} (most : Permitted z) where
  pub few_files : (entries : List Entry) → length (file_entries z entries) < 65536
  few_files entries =
      let x : ℕ → List (List ℕ) = λ f. file_entry z.clients f (entry_of entries f) in
      let each : (f : ℕ) → length (x f) ≤ 1 =
      λ f. let e = entry_of entries f in short_if (is_listed z.clients e) (file_bytes z.clients f e) in
      omega (arith, short_below 1 z.files x each, most.files)

  pub few_opens : (entries : List Entry) → length (open_entries z entries) < 65536
  few_opens entries =
      let x : ℕ → List (List ℕ) = λ f. file_opens z.clients f (entry_of entries f) in
      let each : (f : ℕ) → length (x f) ≤ 8 =
      λ f.
      let y : ℕ → List (List ℕ) = λ i. open_entry i f (record_at (entry_of entries f) i) in
      let one : (i : ℕ) → length (y i) ≤ 1 =
      λ i. let r = record_at (entry_of entries f) i in short_if (is_open r) (open_bytes i f r) in
      omega (arith, short_below 1 z.clients y one, most.clients) in
      omega (arith, short_below 8 z.files x each, most.files)

  pub few_blocks : (used : List Bool) (blocks : List ℕ) → length (block_entries z used blocks) < 65536
  few_blocks used blocks =
      let x : ℕ → List (List ℕ) = λ f. file_blocks z.blocks f used blocks in
      let each : (f : ℕ) → length (x f) ≤ 8 =
      λ f.
      let y : ℕ → List (List ℕ) = λ b. block_entry f b (get_or used (place f b) false) (get_or blocks (place f b) 0) in
      let one : (b : ℕ) → length (y b) ≤ 1 =
      λ b. short_if (get_or used (place f b) false) (block_bytes f b (get_or blocks (place f b) 0)) in
      omega (arith, short_below 1 z.blocks y one, most.blocks) in
      omega (arith, short_below 8 z.files x each, most.files)

  pub few_embargoes : (embargoed : List Bool) → length (embargo_entries z embargoed) < 65536
  few_embargoes embargoed =
      let x : ℕ → List (List ℕ) = λ i. embargo_entry i (is_embargoed embargoed i) in
      let each : (i : ℕ) → length (x i) ≤ 1 = λ i. short_if (is_embargoed embargoed i) (embargo_bytes i) in
      omega (arith, short_below 1 z.clients x each, most.clients)

-- ---- a section

entries_read : (w : ℕ) (es : List (List ℕ)) (rest : List ℕ) → Wide w es → entries_in w (length es) (flat es ++ rest) ≡ es
unfolding entries_in flat
entries_read w [] rest h = refl
entries_read w (e ∷ es) rest (long, wide) =
    let regroup = append_assoc e (flat es) rest in
    let first = ap (take w) regroup ∙ take_at e (flat es ++ rest) w long in
    let others =
    ap (λ l. entries_in w (length es) (drop w l)) regroup
    ∙ ap (entries_in w (length es)) (drop_at e (flat es ++ rest) w long)
    ∙ entries_read w es rest wide in
    λ k. first k ∷ others k

module _ (w : ℕ) (es : List (List ℕ)) (rest : List ℕ) (wide : Wide w es) (few : length es < 65536) where
  count_read : number_at 2 (section es ++ rest) 0 ≡ length es
  unfolding number_at low
  count_read = omega arith

  pub section_read : section_in w (section es ++ rest) ≡ es
  unfolding low
  section_read =
      ap (λ n. entries_in w n (flat es ++ rest)) count_read ∙ entries_read w es rest wide

  pub past_read : past_section w (section es ++ rest) ≡ rest
  unfolding low
  past_read =
      let n = w * length es in
      let two : 2 + n ≡ suc (suc n) = omega arith in
      ap (λ k. drop (2 + w * k) (section es ++ rest)) count_read
      ∙ ap (λ k. drop k (section es ++ rest)) two
      ∙ drop_at (flat es) rest n (length_flat w es wide)

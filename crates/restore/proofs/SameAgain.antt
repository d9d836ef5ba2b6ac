-- Two servers whose contents read alike have the same image. Assumes nothing.
use Prim.Native.Nat.{ℕ, zero, suc, ◌≤◌, ◌<◌}
use mathlib.Core.Path.{◌≡◌, refl, sym, ap, ◌∙◌}
use mathlib.Core.Bool.{Bool, true, false, cond, not, ◌&&◌}
use mathlib.Core.List.{List, [], ◌∷◌, ◌++◌}
use native.Mathlib.Omega.{arith}
use lib.Dec.{eqb, ltb, leb}
use lib.ListN.{get_or}
use borrow.Author.Tests.{le-ltb, le-leb, ltb-false}
use Rattle.records.specs.declared.record.ClientRecord.{ClientRecord}
use Rattle.records.specs.Version.{version_of, number_of, as_read}
use Rattle.records.specs.Record.{not_open, is_open}
use Rattle.sizes.proofs.Choosing.{split, when, unless}
use Rattle.sizes.specs.declared.sizes.Sizes.{Sizes}
use Rattle.sizes.specs.Sizes.{max_clients, place, nobody, Permitted}
use Rattle.protocol.specs.declared.entry.Entry.{Entry}
use Rattle.protocol.specs.Entry.{record_at}
use Rattle.table.specs.TableStep.{entry_of, is_embargoed}
use Rattle.image.specs.Bytes.{low, below, entry_if, section}
use Rattle.image.specs.Image.{size_bytes, version_read, last_read, file_entry, file_entries, open_entry, file_opens}
use Rattle.image.specs.Image.{open_entries, block_entry, file_blocks, block_entries, embargo_entry, embargo_entries}
use Rattle.image.specs.Image.{image_bytes}
use Rattle.restore.proofs.GivenOpens.{open_read}

below_agree {ℓ} :
    {A : Type ℓ} (n : ℕ) (x y : ℕ → List A) → ((k : ℕ) → k < n → x k ≡ y k) → below n x ≡ below n y
unfolding below
below_agree zero x y same = refl
below_agree (suc n) x y same =
    let before = below_agree n x y (λ k h. same k (omega arith)) in
    let last = same n (omega arith) in
    λ k. before k ++ last k

-- a version that was read is read as itself
pub read_again : (e : Entry) → number_of (as_read (version_of (version_read e))) ≡ version_read e
read_again e = split (eqb (number_of e.version) 0) (λ t. rw t) (λ t. rw (t, t))

-- the entry of a file, from its version and its last writer as they are stored
abbrev file_with : ℕ → ℕ → ℕ → ℕ → List (List ℕ)
file_with n f version last =
    entry_if (not (eqb version 1 && leb n last)) (f ∷ (low 4 version ++ (cond (ltb last n) last nobody ∷ [])))

file_again :
    (n f : ℕ) (d e : Entry)
    → n ≤ max_clients
    → version_read d ≡ version_read e
    → d.last ≡ last_read n e
    → file_entry n f d ≡ file_entry n f e
file_again n f d e few version last =
    let v = version_read e in
    split (ltb e.last n)
    (λ t. let same : d.last ≡ e.last = last ∙ when _ _ t in λ k. file_with n f (version k) (same k))
    (λ t.
    let none : n ≤ e.last = ltb-false e.last n t in
    let same : d.last ≡ nobody = last ∙ unless _ _ t in
    (λ k. file_with n f (version k) (same k))
    ∙ rw (le-leb n nobody (omega arith), le-leb n e.last none, le-ltb nobody n (omega arith), t))

open_again : (i f : ℕ) (r : ClientRecord) → open_entry i f (open_read r) ≡ open_entry i f r
open_again i f r =
    split (is_open r)
    (λ t. ap (open_entry i f) (when r not_open t))
    (λ t. ap (open_entry i f) (unless r not_open t) ∙ sym (unless _ _ t))

-- a block that is not used shows no value
block_again :
    (f b : ℕ) (t : Bool) (v : ℕ) {u : Bool} {w : ℕ} → u ≡ t → w ≡ cond t v 0 → block_entry f b u w ≡ block_entry f b t v
block_again f b true v used value = λ k. block_entry f b (used k) (value k)
block_again f b false v {u} {w} used value = ap (λ u. block_entry f b u w) used

module _
    {z : Sizes}
    (most : Permitted z)
    (others entries : List Entry)
    (other_used used : List Bool)
    (other_blocks blocks : List ℕ)
    (other_embargoes embargoed : List Bool)
    (versions : (f : ℕ) → f < z.files → version_read (entry_of others f) ≡ version_read (entry_of entries f))
    (lasts : (f : ℕ) → f < z.files → (entry_of others f).last ≡ last_read z.clients (entry_of entries f))
    (records : (f i : ℕ)
    → f < z.files
    → i < z.clients
    → record_at (entry_of others f) i ≡ open_read (record_at (entry_of entries f) i))
    (marks : (f b : ℕ)
    → f < z.files
    → b < z.blocks
    → get_or other_used (place f b) false ≡ get_or used (place f b) false)
    (values : (f b : ℕ)
    → f < z.files
    → b < z.blocks
    → get_or other_blocks (place f b) 0 ≡ cond (get_or used (place f b) false) (get_or blocks (place f b) 0) 0)
    (embargoes : (i : ℕ) → i < z.clients → is_embargoed other_embargoes i ≡ is_embargoed embargoed i) where
  files_again : file_entries z others ≡ file_entries z entries
  files_again =
      below_agree z.files (λ f. file_entry z.clients f (entry_of others f))
      (λ f. file_entry z.clients f (entry_of entries f))
      (λ f hf.
      file_again z.clients f (entry_of others f) (entry_of entries f) most.clients (versions f hf) (lasts f hf))

  opens_again : open_entries z others ≡ open_entries z entries
  opens_again =
      below_agree z.files (λ f. file_opens z.clients f (entry_of others f))
      (λ f. file_opens z.clients f (entry_of entries f))
      (λ f hf.
      below_agree z.clients (λ i. open_entry i f (record_at (entry_of others f) i))
      (λ i. open_entry i f (record_at (entry_of entries f) i))
      (λ i hi. ap (open_entry i f) (records f i hf hi) ∙ open_again i f (record_at (entry_of entries f) i)))

  blocks_again : block_entries z other_used other_blocks ≡ block_entries z used blocks
  blocks_again =
      below_agree z.files (λ f. file_blocks z.blocks f other_used other_blocks)
      (λ f. file_blocks z.blocks f used blocks)
      (λ f hf.
      below_agree z.blocks
      (λ b. block_entry f b (get_or other_used (place f b) false) (get_or other_blocks (place f b) 0))
      (λ b. block_entry f b (get_or used (place f b) false) (get_or blocks (place f b) 0))
      (λ b hb. block_again f b (get_or used (place f b) false) (get_or blocks (place f b) 0) (marks f b hf hb) (values f b hf hb)))

  embargoes_again : embargo_entries z other_embargoes ≡ embargo_entries z embargoed
  embargoes_again =
      below_agree z.clients (λ i. embargo_entry i (is_embargoed other_embargoes i))
      (λ i. embargo_entry i (is_embargoed embargoed i)) (λ i hi. ap (embargo_entry i) (embargoes i hi))

  pub image_again :
      image_bytes z others other_used other_blocks other_embargoes ≡ image_bytes z entries used blocks embargoed
  unfolding image_bytes
  image_again =
      λ k.
      size_bytes z
      ++ (section (files_again k)
      ++ (section (opens_again k) ++ (section (blocks_again k) ++ section (embargoes_again k))))

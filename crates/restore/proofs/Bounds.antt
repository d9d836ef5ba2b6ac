-- What bytes hold fits the fields of a server, whatever the bytes are. Assumes nothing.
use Prim.Native.Nat.{ℕ, zero, suc, ◌+◌, ◌*◌, ◌<◌}
use mathlib.Core.Path.{◌≡◌, refl, ap, ◌∙◌, subst⁻¹}
use mathlib.Core.Bool.{Bool, true, false}
use mathlib.Core.List.{List, [], ◌∷◌}
use native.Mathlib.Omega.{arith}
use lib.Dec.{eqb, lit<}
use lib.ListN.{length, get_or, set, take, drop, replicate, length-set, length-replicate, get_or-replicate}
use lib.Seq.{get_or-drop, get_or-set_same, get_or-set_other}
use borrow.Author.Tests.{eqb-true, eqb-false}
use Rattle.records.specs.Version.{number_of}
use Rattle.records.specs.Record.{not_open}
use Rattle.sizes.proofs.Choosing.{split}
use Rattle.sizes.specs.Sizes.{max_clients, max_files, max_places, nobody}
use Rattle.decision.proofs.Beyond.{get_d_alike}
use Rattle.protocol.specs.declared.entry.Entry.{Entry}
use Rattle.protocol.specs.Entry.{record_at, fresh_entry}
use Rattle.table.specs.TableStep.{no_entry, entry_of}
use Rattle.restore.specs.Decoded.{number_at, entries_in, section_in, placed, with_file, put_file, file_of, record_of, with_open}
use Rattle.restore.specs.Decoded.{opener_of, opened_of, put_open, place_of, put_block, put_used, files_part, opens_part}
use Rattle.restore.specs.Decoded.{blocks_part, embargoed_of, put_embargo, embargoes_part, decoded_files}
use Rattle.restore.specs.Decoded.{decoded_used, decoded_blocks, decoded_embargoes}
use Rattle.restore.specs.Exact.{AreBytes}

-- ---- parts of bytes are bytes

take_bytes : (w : ℕ) (l : List ℕ) → AreBytes l → AreBytes (take w l)
take_bytes zero l h k = lit< tt
take_bytes (suc w) [] h k = lit< tt
take_bytes (suc w) (x ∷ l) h zero = h 0
take_bytes (suc w) (x ∷ l) h (suc k) = take_bytes w l (λ j. h (suc j)) k

drop_bytes : (n : ℕ) (l : List ℕ) → AreBytes l → AreBytes (drop n l)
drop_bytes n l h k = rw (get_or-drop n l k 0) (h (n + k))

-- what every entry of bytes keeps
placed_keeps :
    {A : Type 0} (put : List ℕ → A → A) (P : A → Type 0)
    → ((e : List ℕ) (a : A) → AreBytes e → P a → P (put e a))
    → (w n : ℕ) (l : List ℕ) (a : A)
    → AreBytes l
    → P a
    → P (placed put (entries_in w n l) a)
unfolding placed entries_in
placed_keeps put P keeps w zero l a h p = p
placed_keeps put P keeps w (suc n) l a h p =
    placed_keeps put P keeps w n (drop w l) (put (take w l) a) (drop_bytes w l h)
    (keeps (take w l) a (take_bytes w l h) p)

-- ---- the entries

pub record Good (e : Entry) : Type 0 where
  pub records : length e.records ≡ max_clients
  pub version : number_of e.version < 4294967296
  pub last : e.last < 256
  pub readers : (i : ℕ) → (record_at e i).readers < 256
  pub writers : (i : ℕ) → (record_at e i).writers < 256
  pub waiter : e.waiter ≡ nobody

pub record GoodFiles (l : List Entry) : Type 0 where
  pub entries : length l ≡ max_files
  pub each : (f : ℕ) → f < max_files → Good (entry_of l f)

fresh_good : Good (fresh_entry max_clients)
fresh_good =
    record {
      records = length-replicate max_clients not_open;
      version = lit< tt;
      last = lit< tt;
      readers = λ i. rw (get_d_alike max_clients not_open i) (lit< tt);
      writers = λ i. rw (get_d_alike max_clients not_open i) (lit< tt);
      waiter = refl;
    }

fresh_files_good : GoodFiles (replicate max_files (fresh_entry max_clients))
fresh_files_good =
    record {
      entries = length-replicate max_files (fresh_entry max_clients);
      each = λ f hf. subst⁻¹ Good (get_or-replicate max_files f (fresh_entry max_clients) no_entry hf) fresh_good;
    }

set_good : (l : List Entry) (f : ℕ) (x : Entry) → GoodFiles l → f < max_files → Good x → GoodFiles (set l f x)
set_good l f x h inside good =
    record {
      entries = length-set l f x ∙ h.entries;
      each = λ g hg.
          split (eqb g f)
          (λ e.
          subst⁻¹ Good
          (ap (entry_of (set l f x)) (eqb-true g f e) ∙ get_or-set_same l f x no_entry (rw h.entries inside)) good)
          (λ e. subst⁻¹ Good (get_or-set_other l f g x no_entry (eqb-false g f e)) (h.each g hg));
    }

version_small : (e : List ℕ) → AreBytes e → number_at 4 e 1 < 4294967296
unfolding number_at
version_small e h = omega (arith, h 1, h 2, h 3, h 4)

with_file_good : (e : List ℕ) (x : Entry) → AreBytes e → Good x → Good (with_file e x)
with_file_good e x h good =
    record {
      records = good.records;
      version = version_small e h;
      last = h 5;
      readers = good.readers;
      writers = good.writers;
      waiter = good.waiter;
    }

with_open_good : (e : List ℕ) (x : Entry) → AreBytes e → Good x → Good (with_open e x)
with_open_good e x h good =
    let i : ℕ = opener_of e in
    let room : i < length x.records = rw good.records (omega arith) in
    record {
      records = length-set x.records i (record_of e) ∙ good.records;
      version = good.version;
      last = good.last;
      readers = λ j.
          split (eqb j i)
          (λ t.
          rw (eqb-true j i t, get_or-set_same x.records i (record_of e) not_open room) (h 2))
          (λ t. rw (get_or-set_other x.records i j (record_of e) not_open (eqb-false j i t)) (good.readers j));
      writers = λ j.
          split (eqb j i)
          (λ t.
          rw (eqb-true j i t, get_or-set_same x.records i (record_of e) not_open room) (h 3))
          (λ t. rw (get_or-set_other x.records i j (record_of e) not_open (eqb-false j i t)) (good.writers j));
      waiter = good.waiter;
    }

pub decoded_files_good : (bytes : List ℕ) → AreBytes bytes → GoodFiles (decoded_files bytes)
unfolding decoded_files
decoded_files_good bytes h =
    let files = files_part bytes in
    let opens = opens_part bytes in
    let files-bytes : AreBytes files = drop_bytes 5 bytes h in
    let opens-bytes : AreBytes opens = drop_bytes (2 + 6 * number_at 2 files 0) files files-bytes in
    placed_keeps put_open GoodFiles
    (λ e l he hl.
    let inside : opened_of e < max_files = omega arith in
    set_good l (opened_of e) (with_open e (entry_of l (opened_of e))) hl inside
    (with_open_good e (entry_of l (opened_of e)) he (hl.each (opened_of e) inside)))
    5 (number_at 2 opens 0) (drop 2 opens) _ (drop_bytes 2 opens opens-bytes)
    (placed_keeps put_file GoodFiles
    (λ e l he hl.
    let inside : file_of e < max_files = omega arith in
    set_good l (file_of e) (with_file e (entry_of l (file_of e))) hl inside
    (with_file_good e (entry_of l (file_of e)) he (hl.each (file_of e) inside)))
    6 (number_at 2 files 0) (drop 2 files) _ (drop_bytes 2 files files-bytes) fresh_files_good)

-- ---- the blocks

pub record GoodBlocks (l : List ℕ) : Type 0 where
  pub places : length l ≡ max_places
  pub each : (p : ℕ) → get_or l p 0 < 18446744073709551616

value_small : (e : List ℕ) → AreBytes e → number_at 8 e 2 < 18446744073709551616
unfolding number_at
value_small e h = omega (arith, h 2, h 3, h 4, h 5, h 6, h 7, h 8, h 9)

block_good : (e l : List ℕ) → AreBytes e → GoodBlocks l → GoodBlocks (put_block e l)
block_good e l h good =
    let p : ℕ = place_of e in
    let room : p < length l = rw good.places (omega arith) in
    let v : ℕ = number_at 8 e 2 in
    record {
      places = length-set l p v ∙ good.places;
      each = λ q.
          split (eqb q p)
          (λ t. rw (eqb-true q p t, get_or-set_same l p v 0 room) (value_small e h))
          (λ t. rw (get_or-set_other l p q v 0 (eqb-false q p t)) (good.each q));
    }

pub decoded_blocks_good : (bytes : List ℕ) → AreBytes bytes → GoodBlocks (decoded_blocks bytes)
unfolding decoded_blocks
decoded_blocks_good bytes h =
    let files = files_part bytes in
    let opens = opens_part bytes in
    let blocks = blocks_part bytes in
    let files-bytes : AreBytes files = drop_bytes 5 bytes h in
    let opens-bytes : AreBytes opens = drop_bytes (2 + 6 * number_at 2 files 0) files files-bytes in
    let blocks-bytes : AreBytes blocks = drop_bytes (2 + 5 * number_at 2 opens 0) opens opens-bytes in
    let none : GoodBlocks (replicate max_places 0) =
    record {
      places = length-replicate {A = ℕ} max_places 0;
      each = λ p. rw (get_d_alike {A = ℕ} max_places 0 p) (lit< tt);
    } in
    placed_keeps put_block GoodBlocks block_good 10 (number_at 2 blocks 0) (drop 2 blocks) (replicate max_places 0)
    (drop_bytes 2 blocks blocks-bytes) none

-- ---- the used blocks

used_long : (es : List (List ℕ)) (l : List Bool) → length (placed put_used es l) ≡ length l
unfolding placed
used_long [] l = refl
used_long (e ∷ es) l = used_long es (put_used e l) ∙ length-set l (place_of e) true

pub decoded_used_long : (bytes : List ℕ) → length (decoded_used bytes) ≡ max_places
unfolding decoded_used
decoded_used_long bytes =
    used_long (section_in 10 (blocks_part bytes)) (replicate max_places false) ∙ length-replicate max_places false

-- ---- the embargoes

embargoes_long : (es : List (List ℕ)) (l : List Bool) → length (placed put_embargo es l) ≡ length l
unfolding placed
embargoes_long [] l = refl
embargoes_long (e ∷ es) l = embargoes_long es (put_embargo e l) ∙ length-set l (embargoed_of e) true

pub decoded_embargoes_long : (bytes : List ℕ) → length (decoded_embargoes bytes) ≡ max_clients
unfolding decoded_embargoes
decoded_embargoes_long bytes =
    embargoes_long (section_in 1 (embargoes_part bytes)) (replicate max_clients false) ∙ length-replicate max_clients false

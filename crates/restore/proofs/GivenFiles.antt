-- The entries that an image gives back: the versions and last writers of the server that was written, as they are read.
-- n is the number of clients. Assumes nothing.
use Prim.Native.Nat.{ℕ, ◌≤◌, ◌<◌}
use mathlib.Core.Path.{◌≡◌, sym, ap, ◌∙◌}
use mathlib.Core.Bool.{false, ◌&&◌}
use mathlib.Core.List.{List}
use native.Mathlib.Nat.{mod-eq_of_lt}
use native.Mathlib.Omega.{arith}
use lib.Dec.{eqb, leb}
use lib.ListN.{set, replicate, get_or-replicate}
use lib.Seq.{set-get_or}
use borrow.Author.Tests.{eqb-true, leb-true, le-ltb, not-false}
use Rattle.records.specs.declared.record.Mode.TheVariants.{Read}
use Rattle.records.specs.Version.{version_of, number_of}
use Rattle.records.specs.Record.{not_open}
use Rattle.sizes.proofs.Choosing.{split, unless, and_left, and_right}
use Rattle.sizes.specs.declared.sizes.Sizes.{Sizes}
use Rattle.sizes.specs.Sizes.{max_clients, max_files, nobody, Permitted}
use Rattle.decision.specs.Lists.{stored}
use Rattle.decision.proofs.Storing.{get_d_stored_other}
use Rattle.protocol.specs.declared.entry.Entry.{Entry}
use Rattle.protocol.specs.Entry.{fresh_entry}
use Rattle.table.specs.TableStep.{no_entry, entry_of}
use Rattle.image.specs.Bytes.{low}
use Rattle.image.specs.Image.{version_read, last_read, is_listed, file_bytes, file_entry, file_entries}
use Rattle.restore.specs.Decoded.{number_at, placed, with_file, put_file}
use Rattle.restore.proofs.Folding.{placed_if, placed_below}

-- the entry of a file as its section gives it back
abbrev pub listed_entry : ℕ → Entry → Entry
listed_entry n e =
    record {
      records = replicate max_clients not_open;
      version = version_of (version_read e);
      last = last_read n e;
      waiter = nobody;
      mode = Read;
      calls = replicate max_clients 0;
    }

-- all entries at the start
abbrev pub fresh_files : List Entry
fresh_files = replicate max_files (fresh_entry max_clients)

version_fits : (e : Entry) → number_of e.version < 4294967296 → version_read e < 4294967296
version_fits e fits = split (eqb (number_of e.version) 0) (λ t. rw t (omega arith)) (λ t. rw t fits)

version_bytes : (n f : ℕ) (e : Entry) → version_read e < 4294967296 → number_at 4 (file_bytes n f e) 1 ≡ version_read e
unfolding number_at low
version_bytes n f e fits = omega arith

module _ (n f : ℕ) (e : Entry) where
  listed_is :
      number_of e.version < 4294967296 → with_file (file_bytes n f e) (fresh_entry max_clients) ≡ listed_entry n e
  unfolding low
  listed_is fits =
      ap
      (λ v.
      record {
        records = replicate max_clients not_open;
        version = version_of v;
        last = last_read n e;
        waiter = nobody;
        mode = Read;
        calls = replicate max_clients 0;
      })
      (version_bytes n f e (version_fits e fits))

  -- a file that is not listed is as at the start
  unlisted_is : is_listed n e ≡ false → listed_entry n e ≡ fresh_entry max_clients
  unlisted_is t =
      let both = not-false (eqb (version_read e) 1 && leb n e.last) t in
      let first : version_read e ≡ 1 = eqb-true _ _ (and_left (eqb (version_read e) 1) _ both) in
      let none : n ≤ e.last = leb-true n e.last (and_right (eqb (version_read e) 1) _ both) in
      let nobody-is : last_read n e ≡ nobody = unless _ _ (le-ltb e.last n none) in
      λ k.
      record {
        records = replicate max_clients not_open;
        version = version_of (first k);
        last = nobody-is k;
        waiter = nobody;
        mode = Read;
        calls = replicate max_clients 0;
      }

  put_one :
      (l : List Entry)
      → f < max_files
      → number_of e.version < 4294967296
      → entry_of l f ≡ fresh_entry max_clients
      → placed put_file (file_entry n f e) l ≡ set l f (listed_entry n e)
  put_one l inside fits fresh =
      let b = file_bytes n f e in
      placed_if put_file (is_listed n e) b l
      ∙ split (is_listed n e)
      (λ t.
      rw t
      (ap (λ g. set l g (with_file b (entry_of l g))) (mod-eq_of_lt inside)
      ∙ ap (λ x. set l f (with_file b x)) fresh
      ∙ ap (set l f) (listed_is fits)))
      (λ t. rw t (sym (set-get_or l f no_entry) ∙ ap (set l f) (fresh ∙ sym (unlisted_is t))))

pub given_files :
    {z : Sizes} (most : Permitted z) (entries : List Entry)
    → ((f : ℕ) → f < z.files → number_of (entry_of entries f).version < 4294967296)
    → placed put_file (file_entries z entries) fresh_files
    ≡ stored z.files (λ f. f) (λ f. listed_entry z.clients (entry_of entries f)) fresh_files
unfolding stored
given_files {z} most entries fits =
    let n = z.clients in
    let value : ℕ → Entry = λ f. listed_entry n (entry_of entries f) in
    placed_below put_file z.files (λ f. file_entry n f (entry_of entries f))
    (λ k. stored k (λ f. f) value fresh_files)
    (λ k hk.
    let few = most.files in
    put_one n k (entry_of entries k) (stored k (λ f. f) value fresh_files) (omega arith) (fits k hk)
    (get_d_stored_other k (λ f. f) value fresh_files no_entry k (λ j hj. omega arith)
    ∙ get_or-replicate max_files k (fresh_entry max_clients) no_entry (omega arith)))

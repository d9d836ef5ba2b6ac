-- An accepted reading of an image is a crash, on its premise. Assumes nothing.
use Prim.Native.Nat.{ℕ, zero, suc, ◌-◌, ◌<◌}
use mathlib.Core.Path.{◌≡◌, refl, sym, ap, ◌∙◌, subst}
use mathlib.Core.Bool.{false, cond}
use mathlib.Core.List.{List}
use native.Mathlib.Omega.{arith}
use lib.ListN.{get_or}
use Rattle.records.specs.Version.{first_version, as_read}
use Rattle.sizes.proofs.Choosing.{split, when, unless}
use Rattle.sizes.specs.declared.sizes.Sizes.{Sizes}
use Rattle.sizes.specs.Sizes.{max_files, place, in_force}
use Rattle.decision.specs.Lists.{stored}
use Rattle.sizes.proofs.InForce.{in_force_permitted, file_fits}
use Rattle.decision.proofs.Storing.{get_d_stored, stored_same}
use Rattle.protocol.specs.declared.entry.Entry.{Entry}
use Rattle.protocol.specs.declared.step.Step.TheVariants.{Crash}
use Rattle.protocol.specs.Entry.{crashed_entry}
use Rattle.table.specs.TableStep.{no_entry, entry_of, is_embargoed, table_step}
use Rattle.service.specs.declared.service.Service.{Service}
use Rattle.service.specs.declared.outcome.Outcome.{Outcome}
use Rattle.service.specs.Contents.{sizes_of, table_in, entry_at, block_at, used_at}
use Rattle.service.specs.Step.{moved, step_of}
use Rattle.service.specs.Space.{used_in, spaced}
use Rattle.service.specs.Demand3.{after, Memory, Recovery}
use Rattle.service.proofs.Views.{Sized}
use Rattle.service.proofs.Reached.{Reached, reached-sized, version_not_zero_lem}
use Rattle.service.proofs.StoreKept.{Kept}
use Rattle.restore.specs.Reading.{with_version, with_versions, with_places, with_blocks, with_used, with_embargoes}
use Rattle.restore.specs.Reading.{with_contents, reading_of}
use Rattle.restore.specs.Exact.{used_values}
use Rattle.restore.proofs.GivenBlocks.{used_value}
use Rattle.restore.proofs.ReadsBack.{reads_back}
use Rattle.history.specs.Event.{Unchanged}

-- taking what stands in the places of blocks already
places_same {ℓ} :
    {A : Type ℓ} (d : A) (k n : ℕ) (others l : List A)
    → ((f b : ℕ) → f < k → b < n → get_or others (place f b) d ≡ get_or l (place f b) d)
    → with_places d k n others l ≡ l
unfolding with_places
places_same d zero n others l same = refl
places_same d (suc k) n others l same =
    ap (stored n (place k) (λ b. get_or others (place k b) d))
    (places_same d k n others l (λ f b hf hb. same f b (omega arith) hb))
    ∙ stored_same n (place k) (λ b. get_or others (place k b) d) l d (λ b hb. same k b (omega arith) hb)

module _
    (z : Sizes)
    (s : Service)
    (m : Memory)
    (r : Recovery)
    (h : Reached z s m r)
    (room : Kept s)
    (bytes : List ℕ)
    (u : Unchanged s bytes) where
  abbrev n : ℕ
  n = (sizes_of s).files

  abbrev crashed : Service
  crashed = after s Crash

  -- the entries after the crash, and those of the service that was written
  abbrev files : List Entry
  files = (table_in crashed).files

  abbrev others : List Entry
  others = (table_in u.written).files

  sized_s : Sized (in_force z) s
  sized_s = reached-sized z s m r h

  -- the stored version is not 0, and so read as itself
  pub version_same : (f : ℕ) → f < n → as_read (entry_of others f).version ≡ (entry_at s f).version
  version_same f hf =
      let some = version_not_zero_lem z s m r h f (subst (λ (z : Sizes). f < z.files) sized_s.sizes hf) in
      sym (u.versions f hf) ∙ unless first_version (entry_at s f).version some

  -- a crash keeps the version
  crashed_version : (f : ℕ) → f < n → (entry_of files f).version ≡ (entry_at s f).version
  unfolding step_of moved spaced table_step
  crashed_version f hf =
      let inside : f < max_files = file_fits (in_force_permitted s.sizes) hf in
      ap (λ (e : Entry). e.version)
      (get_d_stored n (λ f. f) (λ f. crashed_entry (sizes_of s).clients (entry_at s f)) (table_in s).files no_entry f hf
      (rw sized_s.entries inside) (λ k less below. omega arith))

  files_same : with_versions n others files ≡ files
  files_same =
      stored_same n (λ f. f) (λ f. with_version (entry_of files f) (as_read (entry_of others f).version)) files no_entry
      (λ f hf. ap (with_version (entry_of files f)) (version_same f hf ∙ sym (crashed_version f hf)))

  -- the blocks that the image gives back
  abbrev pub values : List ℕ
  values = used_values u.written.server.used u.written.server.blocks

  -- one that is not used is 0, at the server too
  pub value_same : (f b : ℕ) → f < n → b < (sizes_of s).blocks → get_or values (place f b) 0 ≡ block_at s f b
  value_same f b hf hb =
      used_value u.written.server.used u.written.server.blocks (place f b)
      ∙ (λ k. cond (sym (u.used f b hf hb) k) (sym (u.blocks f b hf hb) k) 0)
      ∙ split (used_at s f b) (λ e. when _ _ e) (λ e. unless _ _ e ∙ sym (room.unused f b hf hb e))

  blocks_stay : with_blocks n (sizes_of s).blocks values s.server.blocks ≡ s.server.blocks
  blocks_stay = places_same 0 n (sizes_of s).blocks values s.server.blocks value_same

  used_stays : with_used n (sizes_of s).blocks u.written.server.used s.server.used ≡ s.server.used
  used_stays =
      places_same false n (sizes_of s).blocks u.written.server.used s.server.used
      (λ f b hf hb. sym (u.used f b hf hb))

  embargoes_stay :
      with_embargoes (sizes_of s).clients (table_in u.written).embargoed (table_in s).embargoed ≡ (table_in s).embargoed
  embargoes_stay =
      stored_same (sizes_of s).clients (λ i. i) (is_embargoed (table_in u.written).embargoed)
      (table_in s).embargoed false (λ i hi. sym (u.embargoes i hi))

  contents_same :
      with_contents crashed others u.written.server.used values (table_in u.written).embargoed ≡ crashed
  unfolding step_of moved spaced table_step
  contents_same =
      λ k.
      record {
        sizes = s.sizes;
        server =
            record {
              table =
                  record {
                    files = files_same k;
                    recovering = (table_in crashed).recovering;
                    reported = (table_in crashed).reported;
                    embargoed = embargoes_stay k;
                  };
              blocks = blocks_stay k;
              used = used_stays k;
              free = (sizes_of s).store - used_in (sizes_of s) (used_stays k);
            };
        clients = s.clients;
        copies = s.copies;
        held = s.held;
        dirty = s.dirty;
      }

  pub reading_is_crash : (reading_of s bytes).service ≡ after s Crash
  reading_is_crash =
      ap (λ b. (reading_of s b).service) (sym u.image)
      ∙ ap (λ (o : Outcome). o.service) (reads_back s u.written u.fits u.sizes)
      ∙ contents_same

-- The fields of an entry, read where it stands in the bytes l, and put in their places. Assumes nothing.
use Prim.Native.Nat.{ℕ, ◌+◌, ◌*◌, ◌%◌, ◌<◌}
use mathlib.Core.Path.{◌≡◌, sym, ap, ◌∙◌}
use mathlib.Core.Bool.{Bool, true}
use mathlib.Core.List.{List}
use native.Mathlib.Nat.{add-zero}
use lib.Dec.{ltb, lit<, lit≤}
use lib.ListN.{take, drop, set}
use Rattle.records.specs.declared.record.ClientRecord.{ClientRecord}
use Rattle.records.specs.declared.version.Version.{Version}
use Rattle.records.specs.Version.{version_of}
use Rattle.protocol.specs.declared.entry.Entry.{Entry}
use Rattle.table.specs.TableStep.{entry_of}
use Rattle.restore.specs.Decoded.{byte_at, number_at, with_file, put_file, record_of, with_open, put_open}
use Rattle.restore.specs.Decoded.{place_of, put_block, put_used, put_embargo}
use Rattle.restore.proofs.ReadLow.{byte_part, number_part}

module _ (l : List ℕ) (at : ℕ) where
  first_byte : (w : ℕ) {b : ℕ} → 0 < w → b ≡ byte_at l at → b ≡ byte_at (take w (drop at l)) 0
  first_byte w some e = e ∙ ap (byte_at l) (sym (add-zero at)) ∙ sym (byte_part w at l 0 some)

  pub file_fields :
      (x : Entry) {v : Version} {b : ℕ}
      → v ≡ version_of (number_at 4 l (at + 1))
      → b ≡ byte_at l (at + 5)
      → record {
        records = x.records;
        version = v;
        last = b;
        waiter = x.waiter;
        mode = x.mode;
        calls = x.calls;
      }
      ≡ with_file (take 6 (drop at l)) x
  file_fields x version last =
      let v = version ∙ ap version_of (sym (number_part 6 at l 4 1 (lit≤ tt))) in
      let b = last ∙ sym (byte_part 6 at l 5 (lit< tt)) in
      λ k.
      record {
        records = x.records;
        version = v k;
        last = b k;
        waiter = x.waiter;
        mode = x.mode;
        calls = x.calls;
      }

  pub file_put :
      (entries : List Entry) {b : ℕ} {x : Entry}
      → b ≡ byte_at l at
      → x ≡ with_file (take 6 (drop at l)) (entry_of entries (b % 64))
      → set entries (b % 64) x ≡ put_file (take 6 (drop at l)) entries
  file_put entries {b} {x} file is =
      let e = take 6 (drop at l) in
      ap (set entries (b % 64)) is
      ∙ ap (λ b. set entries (b % 64) (with_file e (entry_of entries (b % 64)))) (first_byte 6 (lit< tt) file)

  pub record_fields :
      {r w p : ℕ}
      → r ≡ byte_at l (at + 2)
      → w ≡ byte_at l (at + 3)
      → p ≡ byte_at l (at + 4)
      → record { readers = r; writers = w; caching = ltb 0 p } ≡ record_of (take 5 (drop at l))
  record_fields r w p =
      let r' = r ∙ sym (byte_part 5 at l 2 (lit< tt)) in
      let w' = w ∙ sym (byte_part 5 at l 3 (lit< tt)) in
      let p' = p ∙ sym (byte_part 5 at l 4 (lit< tt)) in
      λ k. record { readers = r' k; writers = w' k; caching = ltb 0 (p' k) }

  pub open_fields :
      (x : Entry) {b : ℕ} {r : ClientRecord}
      → b ≡ byte_at l at
      → r ≡ record_of (take 5 (drop at l))
      → record {
        records = set x.records (b % 8) r;
        version = x.version;
        last = x.last;
        waiter = x.waiter;
        mode = x.mode;
        calls = x.calls;
      }
      ≡ with_open (take 5 (drop at l)) x
  open_fields x client opens =
      let b = first_byte 5 (lit< tt) client in
      λ k.
      record {
        records = set x.records (b k % 8) (opens k);
        version = x.version;
        last = x.last;
        waiter = x.waiter;
        mode = x.mode;
        calls = x.calls;
      }

  pub open_put :
      (entries : List Entry) {b : ℕ} {x : Entry}
      → b ≡ byte_at l (at + 1)
      → x ≡ with_open (take 5 (drop at l)) (entry_of entries (b % 64))
      → set entries (b % 64) x ≡ put_open (take 5 (drop at l)) entries
  open_put entries {b} {x} file is =
      let e = take 5 (drop at l) in
      ap (set entries (b % 64)) is
      ∙ ap (λ b. set entries (b % 64) (with_open e (entry_of entries (b % 64))))
      (file ∙ sym (byte_part 5 at l 1 (lit< tt)))

  pub place_fields :
      {f b : ℕ}
      → f ≡ byte_at l at
      → b ≡ byte_at l (at + 1)
      → f % 64 * 8 + b % 8 ≡ place_of (take 10 (drop at l))
  place_fields file block =
      let f = first_byte 10 (lit< tt) file in
      let b = block ∙ sym (byte_part 10 at l 1 (lit< tt)) in
      λ k. f k % 64 * 8 + b k % 8

  pub block_put :
      (blocks : List ℕ) {p v : ℕ}
      → p ≡ place_of (take 10 (drop at l))
      → v ≡ number_at 8 l (at + 2)
      → set blocks p v ≡ put_block (take 10 (drop at l)) blocks
  block_put blocks place value =
      let v = value ∙ sym (number_part 10 at l 8 2 (lit≤ tt)) in
      λ k. set blocks (place k) (v k)

  pub used_put :
      (used : List Bool) {p : ℕ}
      → p ≡ place_of (take 10 (drop at l))
      → set used p true ≡ put_used (take 10 (drop at l)) used
  used_put used place = ap (λ p. set used p true) place

  pub embargo_put :
      (embargoed : List Bool) {b : ℕ}
      → b ≡ byte_at l at
      → set embargoed (b % 8) true ≡ put_embargo (take 1 (drop at l)) embargoed
  embargo_put embargoed client = ap (λ b. set embargoed (b % 8) true) (first_byte 1 (lit< tt) client)

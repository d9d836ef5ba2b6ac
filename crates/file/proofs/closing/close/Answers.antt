-- `close` meets its contract: refused or done, by what its parts give. Assumes nothing.
use Prim.Native.Nat.{ℕ, ◌%◌, ◌+◌, ◌*◌, ◌<◌, ◌≤◌}
use mathlib.Core.Path.{◌≡◌, refl, sym, ap, ◌∙◌}
use mathlib.Core.Bool.{Bool}
use mathlib.Core.List.{List}
use native.Mathlib.Nat.{mod-eq_of_lt, mod-lt}
use native.Mathlib.Omega.{arith}
use lib.ListN.{length, length-set}
use Rattle.records.specs.declared.record.Mode.{Mode}
use Rattle.records.specs.Record.{closed}
use Rattle.sizes.specs.declared.sizes.Sizes.{Sizes}
use Rattle.sizes.specs.Sizes.{Permitted, max_clients, max_files}
use Rattle.decision.specs.Lists.{first_of}
use Rattle.protocol.specs.declared.client.ClientFile.{ClientFile}
use Rattle.protocol.specs.declared.entry.Entry.{Entry}
use Rattle.protocol.specs.declared.reply.Reply.TheVariants.{Done}
use Rattle.protocol.specs.Client.{side_of, closed_client}
use Rattle.protocol.specs.Refusal.{Test, close_tests}
use Rattle.protocol.specs.Refused.{refusal_in}
use Rattle.protocol.proofs.Tested.{named}
use Rattle.words.specs.Words.{side_held}
use Rattle.words.specs.Rows.{row_words, word_at, entry_held, sides_held, file_held}
use Rattle.words.proofs.Changing.{beside_three, closed_held}
use Rattle.blocks.proofs.Wrapped.{wrapped_cell}
use Rattle.file.specs.FileStep.{after_close}
use Rattle.file.proofs.Lending.{any_found}
use Rattle.file.proofs.Taking.{close_step, accepted, holds_as, refused_holds, not_refused}
use Rattle.file.proofs.Wrapping.{later, wrapped_tests}
use Rattle.file.proofs.closing.close.Goals as goal

-- what is known once the refusal k is, of the waiter and the side that were loaded
module _
    (z : Sizes)
    (embargoed recovering : Bool)
    (t : List ℕ)
    (mode : Mode)
    (i f waiter : ℕ)
    (own : ClientFile)
    (k : ℕ)
    (p : Permitted z)
    (loaded : waiter ≡ (entry_held t (f % max_files)).waiter)
    (side : own ≡ side_held (word_at t (f % max_files) (10 + i % max_clients)))
    (tested : (e : Entry) → e.waiter ≡ waiter → k ≡ first_of (close_tests z embargoed recovering e own mode i f)) where
  abbrev tests : ClientFile → List Test
  tests own = close_tests z embargoed recovering (entry_held t (f % max_files)) own mode i f

  tests-of : k ≡ first_of (tests (side_of (sides_held t (f % max_files)) i))
  tests-of =
      tested (entry_held t (f % max_files)) (sym loaded)
      ∙ wrapped_tests z t (f % max_files) i own (λ own. later (tests own)) p side

  there : k ≡ 0 → (i < max_clients) × (f < max_files)
  there none =
      let (client, file, _) = named z i f k _ tests-of none in
      (omega (arith, client, p.clients), omega (arith, file, p.files))

pub returns-in-Err : goal.returns-in-Err
returns-in-Err c =
    let a = c.args in
    let file = file_held a.table.now (a.file % max_files) in
    refused_holds (close_tests a.sizes a.embargoed a.recovering file.entry (side_of file.sides a.client) a.mode a.client a.file) _
    (close_step a.sizes a.embargoed a.recovering file a.stores.now a.mode a.client a.file)
    (tests-of a.sizes a.embargoed a.recovering a.table.now a.mode a.client a.file _ _ _ c.requires.permitted
    c.waiter_of.ensures c.side_of-own.ensures c.close_refusal.ensures)
    c.in-Err.is c.from.ensures

pub last_closed-last-requires : goal.last_closed-last-requires
last_closed-last-requires c =
    let a = c.args in
    let known = there a.sizes a.embargoed a.recovering a.table.now a.mode a.client a.file _ _ _ c.requires.permitted
    c.waiter_of.ensures c.side_of-own.ensures c.close_refusal.ensures (ap refusal_in c.in_default.is) in
    known.0

pub returns : goal.returns
returns c =
    let a = c.args in
    let t = a.table.now in
    let row = a.file % max_files in
    let place = a.client % max_clients in
    let file = file_held t row in
    let stores = a.stores.now in
    let none = ap refusal_in c.in_default.is in
    let tested = tests-of a.sizes a.embargoed a.recovering t a.mode a.client a.file _ _ _ c.requires.permitted
    c.waiter_of.ensures c.side_of-own.ensures c.close_refusal.ensures in
    let (client, file-there) = there a.sizes a.embargoed a.recovering t a.mode a.client a.file _ _ _ c.requires.permitted
    c.waiter_of.ensures c.side_of-own.ensures c.close_refusal.ensures none in
    let here : place ≡ a.client = mod-eq_of_lt client in
    let below : place < max_clients = mod-lt a.client (omega arith) in
    let fits : row * row_words + row_words ≤ length t = omega (arith, mod-lt a.file {m = max_files} (omega arith), c.requires.table_len) in
    let any = any_found a.sizes.blocks a.client a.file stores c.first_cell.result c.count_dirty-any.result
    (c.first_cell.ensures.value ∙ wrapped_cell a.client a.file client file-there)
    c.count_dirty-any.ensures in
    holds_as
    (accepted (close_tests a.sizes a.embargoed a.recovering file.entry (side_of file.sides a.client) a.mode a.client a.file) file stores
    (after_close a.sizes file stores a.mode a.client a.file)
    (close_step a.sizes a.embargoed a.recovering file stores a.mode a.client a.file)
    tested
    c.in_default.is)
    (record {
      puts =
          record {
            long = simp length-set;
            here =
                rw (← any)
                (closed_held t row place c.record_word.result c.with_last.result c.side_word.result below fits
                a.client a.mode _ here
                (c.record_word.ensures.0 ∙ c.closed.ensures ∙ ap (closed a.mode) c.record_of-known.ensures)
                (rw (
                  ← c.record_of-known.ensures,
                  ← c.ends_writing.ensures,
                  ← c.last_of.ensures,
                  ← c.last_closed-last.ensures,
                )
                c.with_last.ensures)
                (c.side_word.ensures ∙ c.closed-2.ensures ∙ ap (closed_client a.mode _) c.side_of-own.ensures));
            beside = beside_three t row place c.record_word.result c.with_last.result c.side_word.result below fits;
          };
      reply_after = refl;
      calls_after = refl;
      stores_after = refl;
      refused = not_refused Done refl;
    })

-- `flush` meets its contract: refused, or the block is stored at the server and clean, and both sides are told whether
-- another is left. Assumes nothing.
use Prim.Native.Nat.{ℕ, ◌%◌, ◌+◌, ◌*◌, ◌<◌, ◌≤◌}
use mathlib.Core.Path.{◌≡◌, refl, ap, ◌∙◌}
use mathlib.Core.Bool.{Bool, false}
use mathlib.Core.List.{List}
use native.Mathlib.Nat.{mod-eq_of_lt, mod-lt}
use native.Mathlib.Omega.{arith}
use lib.Dec.{ltb}
use lib.ListN.{length, get_or}
use Rattle.sizes.specs.declared.sizes.Sizes.{Sizes}
use Rattle.sizes.specs.Sizes.{Permitted, max_clients, max_files, max_blocks, place, cell}
use Rattle.decision.specs.Lists.{first_of}
use Rattle.protocol.specs.declared.reply.Reply.TheVariants.{Done}
use Rattle.protocol.specs.Client.{flushed_client}
use Rattle.protocol.specs.Refusal.{flush_tests}
use Rattle.protocol.specs.Refused.{refusal_in}
use Rattle.protocol.proofs.Tested.{named_block}
use Rattle.words.specs.Rows.{row_words, file_held}
use Rattle.blocks.specs.Stores.{dirty_in, flushed_stores}
use Rattle.blocks.proofs.Wrapped.{wrapped_cell, wrapped, wrapped_block}
use Rattle.file.specs.FileStep.{after_flush}
use Rattle.file.proofs.FlushedRow.{flush_puts}
use Rattle.file.proofs.Lending.{any_found, flushed}
use Rattle.file.proofs.Taking.{flush_step, accepted, holds_as, refused_holds, not_refused}
use Rattle.file.proofs.Wrapping.{flush_tests_lem}
use Rattle.file.proofs.flushing.flush.Goals as goal

-- what is known once the refusal k is, of the flag that stands at this place
module _
    (z : Sizes)
    (embargoed recovering : Bool)
    (dirty : List Bool)
    (i f b at k : ℕ)
    (p : Permitted z)
    (wrapped_at : at ≡ cell (i % max_clients) (f % max_files) (b % max_blocks))
    (tested : k ≡ first_of (flush_tests z embargoed recovering (get_or dirty at false) i f b)) where
  -- the tests go by the flag of the block that the step names
  tests-of : k ≡ first_of (flush_tests z embargoed recovering (get_or dirty (cell i f b) false) i f b)
  tests-of = rw (← flush_tests_lem z embargoed recovering dirty i f b p) (rw (← wrapped_at) tested)

  there : k ≡ 0 → (i < max_clients) × (f < max_files) × (b < max_blocks)
  there none =
      let (client, file, block) = named_block z i f b k _ tested none in (
        omega (arith, client, p.clients),
        omega (arith, file, p.files),
        omega (arith, block, p.blocks),
      )

pub returns-in-Err : goal.returns-in-Err
returns-in-Err c =
    let a = c.args in
    let file = file_held a.table.now (a.file % max_files) in
    let stores = a.stores.now in
    refused_holds (flush_tests a.sizes a.embargoed a.recovering (dirty_in stores a.client a.file a.block) a.client a.file a.block) _
    (flush_step a.sizes a.embargoed a.recovering file stores a.client a.file a.block)
    (tests-of a.sizes a.embargoed a.recovering a.stores.now.dirty a.client a.file a.block _ _ c.requires.permitted c.cell_of-cell.ensures.value
    c.flush_refusal.ensures)
    c.in-Err.is c.from.ensures

pub returns : goal.returns
returns c =
    let a = c.args in
    let t = a.table.now in
    let f = a.file % max_files in
    let i = a.client % max_clients in
    let file = file_held t f in
    let stores = a.stores.now in
    let none = ap refusal_in c.in_default.is in
    let tested = tests-of a.sizes a.embargoed a.recovering a.stores.now.dirty a.client a.file a.block _ _ c.requires.permitted
    c.cell_of-cell.ensures.value c.flush_refusal.ensures in
    let (client, file-there, block) = there a.sizes a.embargoed a.recovering a.stores.now.dirty a.client a.file
    a.block _ _ c.requires.permitted
    c.cell_of-cell.ensures.value c.flush_refusal.ensures none in
    let here : i ≡ a.client = mod-eq_of_lt client in
    let fits : f * row_words + row_words ≤ length t = omega (arith, mod-lt a.file {m = max_files} (omega arith), c.requires.table_len) in
    let at : c.cell_of-cell.result ≡ cell a.client a.file a.block =
    c.cell_of-cell.ensures.value ∙ wrapped a.client a.file a.block client file-there block in
    let to : c.place_of.result ≡ place a.file a.block =
    c.place_of.ensures.value ∙ wrapped_block a.file a.block file-there block in
    let any = any_found a.sizes.blocks a.client a.file (flushed_stores a.client a.file a.block stores)
    c.first_cell.result c.count_dirty-left.result
    (c.first_cell.ensures.value ∙ wrapped_cell a.client a.file client file-there)
    (rw (← at) c.count_dirty-left.ensures) in
    let left = ltb 0 c.count_dirty-left.result in
    holds_as
    (accepted (flush_tests a.sizes a.embargoed a.recovering (dirty_in stores a.client a.file a.block) a.client a.file a.block) file stores
    (after_flush a.sizes file stores a.client a.file a.block)
    (flush_step a.sizes a.embargoed a.recovering file stores a.client a.file a.block)
    tested
    c.in_default.is)
    (record {
      puts =
          rw (← any)
          (flush_puts t f i c.with_last.result c.side_word.result a.client left (mod-lt a.client (omega arith)) fits here
          (rw (← c.last_of.ensures, ← c.last_flushed.ensures) c.with_last.ensures)
          (c.side_word.ensures ∙ c.flushed.ensures ∙ ap (flushed_client left) c.side_of-own.ensures));
      reply_after = refl;
      calls_after = refl;
      stores_after =
          flushed a.client a.file a.block stores _ _ at to;
      refused = not_refused Done refl;
    })

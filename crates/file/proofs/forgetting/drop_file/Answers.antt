-- `drop_file` meets its contract. Assumes nothing.
use Prim.Native.Nat.{◌%◌, ◌<◌}
use mathlib.Core.Path.{refl, ◌∙◌}
use mathlib.Core.Bool.{false}
use native.Mathlib.Nat.{mod-eq_of_lt, mod-lt}
use native.Mathlib.Omega.{arith}
use Rattle.sizes.specs.Sizes.{max_clients, max_files}
use Rattle.protocol.specs.Client.{no_client}
use Rattle.words.specs.Rows.{file_held}
use Rattle.blocks.proofs.Wrapped.{wrapped_cell}
use Rattle.file.proofs.DroppedRow.{side_puts}
use Rattle.file.proofs.ForgetStep.{drop_step}
use Rattle.file.proofs.Leaving.{leaves_as}
use Rattle.file.proofs.Lending.{dropped}
use Rattle.file.proofs.forgetting.drop_file.Goals as goal

pub returns : goal.returns
returns c =
    let a = c.args in
    let t = a.table.now in
    let f = a.file % max_files in
    let i = a.client % max_clients in
    let permitted = c.requires.permitted in
    let hi : a.client < max_clients = omega (arith, c.requires.client_lt_clients, permitted.clients) in
    let hf : a.file < max_files = omega (arith, c.requires.file_lt_files, permitted.files) in
    let below : f < max_files = mod-lt a.file (omega arith) in
    let drop = c.drop_copies_unless.ensures in
    leaves_as
    (drop_step a.sizes a.file (file_held t f) a.stores.now a.client)
    (record {
      puts =
          side_puts t f i a.client c.side_word.result no_client (mod-lt a.client (omega arith)) (omega (arith, below, c.requires.table_len))
          (mod-eq_of_lt hi)
          (c.side_word.ensures ∙ c.none.ensures);
      reply_after = refl;
      stores_after =
          dropped a.sizes.blocks a.client a.file a.stores.now false c.first_cell.result _
          (c.first_cell.ensures.value ∙ wrapped_cell a.client a.file hi hf)
          drop.blocks_after
          drop.copies_after
          drop.held_after
          drop.dirty_after;
    })

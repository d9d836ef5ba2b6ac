-- `grant_open` meets its contract. Assumes nothing.
use Prim.Native.Nat.{◌<◌}
use mathlib.Core.Path.{refl, ◌∙◌}
use native.Mathlib.Omega.{arith}
use Rattle.sizes.specs.Sizes.{max_clients, max_files}
use Rattle.blocks.proofs.Wrapped.{wrapped_cell}
use Rattle.file.proofs.Lending.{dropped}
use Rattle.file.proofs.Taking.{not_refused}
use Rattle.file.proofs.granting.grant_open.Goals as goal

pub returns : goal.returns
returns c reply done =
    let a = c.args in
    let permitted = c.requires.permitted in
    let hi : a.opener < max_clients = omega (arith, c.requires.opener_lt_clients, permitted.clients) in
    let hf : a.file < max_files = omega (arith, c.requires.file_lt_files, permitted.files) in
    let drop = c.drop_copies_unless.ensures in
    record {
      puts = c.put_grant.ensures;
      reply_after = refl;
      calls_after = refl;
      refused = not_refused reply done;
      stores_after =
          rw (c.requires.opener_value, ← c.keeps_blocks.ensures)
          (dropped a.sizes.blocks a.opener a.file a.stores.now c.keeps_blocks.result c.first_cell.result _
          (c.first_cell.ensures.value ∙ wrapped_cell a.opener a.file hi hf)
          drop.blocks_after
          drop.copies_after
          drop.held_after
          drop.dirty_after);
    }

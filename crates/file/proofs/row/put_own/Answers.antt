-- `put_own` meets its contract. Assumes nothing.
use mathlib.Core.Path.{refl, ap}
use native.Mathlib.Omega.{arith}
use Rattle.protocol.specs.declared.shared.SharedFile.{SharedFile}
use Rattle.protocol.specs.Client.{with_side}
use Rattle.file.proofs.DroppedRow.{side_puts}
use Rattle.file.proofs.Leaving.{puts_after}
use Rattle.file.proofs.Taking.{puts_as}
use Rattle.file.proofs.row.put_own.Goals as goal

pub returns : goal.returns
returns c =
    let a = c.args in
    let known = c.put_known in
    puts_as (ap (λ (x : SharedFile). record { entry = x.entry; sides = with_side x.sides a.c a.own }) known.ensures.here)
    (puts_after known.ensures
    (side_puts known.new.table a.f a.c a.c c.side_word.result a.own c.requires.c_lt_max_clients
    (omega (arith, known.ensures.long, c.requires.table_len, c.requires.f_lt_max_files)) refl c.side_word.ensures))

-- `take_file` meets its contract: a part is copied. Assumes nothing.
use Prim.Native.Nat.{◌*◌}
use native.Mathlib.Omega.{arith}
use Rattle.restore.proofs.Pasting.{stored_part}
use Rattle.restore.proofs.places.take_file.Goals as goal

pub returns : goal.returns
returns g c none =
    let a = c.args in
    stored_part a.count (a.file * 8) none a.held.now a.others.now c.copy_from_slice.new.self _ c.copy_from_slice.ensures.after (omega arith) (omega arith) (omega arith)

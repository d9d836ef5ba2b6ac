-- Demand 3: for every list of steps, from the fresh service of any sizes, every accepted read gives the latest accepted
-- write, and every accepted end of recovery gives back the table that was held just before the crash that began it.
-- Assumes nothing.
use Prim.Native.Nat.{ℕ, ◌≤◌}
use native.Mathlib.Omega.{arith}
use Rattle.sizes.specs.Sizes.{nobody, in_force}
use Rattle.sizes.proofs.InForce.{in_force_permitted}
use Rattle.protocol.proofs.Invariant.{Running, Recovering}
use Rattle.protocol.proofs.Kept.{promises}
use Rattle.service.specs.Demand3.{Demand3}
use Rattle.service.proofs.Consistent.{consistent}

pub demand3 : Demand3
demand3 z =
    let n : ℕ = (in_force z).clients in
    let most = (in_force_permitted z).clients in
    let bound : n ≤ nobody = omega arith in
    consistent z (Running n) (Recovering n) (promises n bound)

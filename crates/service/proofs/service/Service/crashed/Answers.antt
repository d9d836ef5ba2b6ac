-- `crashed` meets its contract. Assumes nothing.
use Rattle.std.proofs.Common.{refl}
use Rattle.std.proofs.Common.{◌≡◌, length, rules}
use Rattle.service.specs.Lent.{lent_flags}
use Rattle.service.proofs.Agreeing.{held_crash}
use Rattle.service.proofs.service.Service.crashed.Goals as goal

pub returns : goal.returns
returns c =
    let s = c.args.self in
    let flags_long : length c.holding-held.result.flags ≡ lent_flags = search rules in
    let crash =
    held_crash s.sizes s c.to_service.result
    (c.step_table.ensures.serves refl)
    c.in_force.ensures.value
    c.to_service.ensures
    c.holding-held.ensures
    flags_long in
    record { value = crash.0; recovery_agrees = crash.1 }

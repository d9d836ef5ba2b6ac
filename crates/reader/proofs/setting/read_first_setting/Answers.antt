-- `read_first_setting` meets its contract: the first line is read up to its LF. Assumes nothing.
use Prim.Native.Nat.{◌-◌}
use mathlib.Core.Path.{sym, ap, ◌∙◌}
use native.Mathlib.Omega.{arith}
use lib.Seq.{length-take-le}
use Rattle.reader.proofs.FirstSettings.{first_found}
use Rattle.reader.proofs.setting.read_first_setting.Goals as goal
use Rattle.stepfile.specs.Setting.{Setting}

pub slice_bounds-read_setting-length : goal.slice_bounds-read_setting-length
slice_bounds-read_setting-length c =
    let there = first_found c.args.input.now c.in-Some.line.step c.in-Some.line.next (sym c.no_step_at.ensures ∙ c.in-Some.is) in
    sym (length-take-le (c.in-Some.line.next - 1) c.args.input.now (omega (arith, there.inside)))

pub returns : goal.returns
returns c =
    let there = first_found c.args.input.now c.in-Some.line.step c.in-Some.line.next (sym c.no_step_at.ensures ∙ c.in-Some.is) in
    ap (λ (s : Setting). record { setting = s; next = c.in-Some.line.next }) c.read_setting.ensures ∙ sym there.sets

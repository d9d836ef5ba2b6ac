-- A line that gives no step: the first may choose the sizes, if they are settable. Assumes nothing.
use Prim.Native.Nat.{ℕ}
use mathlib.Core.Path.{◌≡◌, sym, ap, ◌∙◌}
use mathlib.Core.Bool.{Bool, true, false, cond, not, ◌&&◌}
use mathlib.Core.List.{List}
use lib.Dec.{eqb}
use Rattle.sizes.proofs.Choosing.{when, unless, cond_not}
use Rattle.service.specs.declared.service.Service.{Service}
use Rattle.stepfile.specs.Setting.{setting_of, Setting}
use Rattle.stepfile.specs.Played.{refused_with, set_outcome, outcome_of}
use Rattle.protocol.specs.declared.step.Step.{Step}
use Rattle.std.proofs.Common.{Option, None}

module _ (settable : Bool) (s : Service) (number : ℕ) (l : List ℕ) (p : Option Step) where
  -- what the line comes to, by the test of the code
  abbrev late : Bool
  late = not (settable && eqb number 1)

  line_outcome : p ≡ None → outcome_of settable s number l p ≡ cond late (refused_with s 1) (set_outcome s (setting_of l))
  line_outcome none =
      ap (outcome_of settable s number l) none
      ∙ sym (cond_not (settable && eqb number 1) (refused_with s 1) (set_outcome s (setting_of l)))

  -- on a later line, or where the sizes are not to be chosen
  pub late_line : p ≡ None → late ≡ true → refused_with s 1 ≡ outcome_of settable s number l p
  late_line none e = sym (line_outcome none ∙ when _ _ e)

  -- on the first
  pub set_line : (x : Setting) → p ≡ None → late ≡ false → x ≡ setting_of l → set_outcome s x ≡ outcome_of settable s number l p
  set_line x none e is = ap (set_outcome s) is ∙ sym (line_outcome none ∙ unless _ _ e)

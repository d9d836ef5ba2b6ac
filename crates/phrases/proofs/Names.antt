-- The mode that the numbers of a step name. Assumes nothing.
use mathlib.Core.Path.{◌≡◌, refl, ap, ◌∙◌}
use Rattle.records.specs.declared.record.Mode.TheVariants.{Read as ForRead, Write as ForWrite}
use Rattle.protocol.specs.declared.step.Numbers.{Numbers}
use Rattle.protocol.specs.declared.step.Step.{Step}
use Rattle.protocol.specs.declared.step.Step.TheVariants.{Open, Close, Read, Write, Flush, Answer, Crash, Report, End}
use Rattle.protocol.specs.declared.step.Step.TheVariants.{Restart, Embargo, Lift}
use Rattle.protocol.specs.Step.{numbers_of, mode_of}
use Rattle.phrases.specs.Phrase.{mode_by_kind}

-- the mode by the kind
mode_kind : (x : Step) → mode_by_kind (numbers_of x).kind ≡ mode_of x
mode_kind (Open ForRead i f) = refl
mode_kind (Open ForWrite i f) = refl
mode_kind (Close ForRead i f) = refl
mode_kind (Close ForWrite i f) = refl
mode_kind (Read i f b) = refl
mode_kind (Write i f b v) = refl
mode_kind (Flush i f b) = refl
mode_kind (Answer i f) = refl
mode_kind Crash = refl
mode_kind (Report i) = refl
mode_kind End = refl
mode_kind (Restart i) = refl
mode_kind (Embargo i f) = refl
mode_kind (Lift i) = refl

-- the mode that the numbers of a step name is the step's
module _ (x : Step) {q : Numbers} (is : q ≡ numbers_of x) where
  pub mode_named : mode_by_kind q.kind ≡ mode_of x
  mode_named = ap (λ (r : Numbers). mode_by_kind r.kind) is ∙ mode_kind x

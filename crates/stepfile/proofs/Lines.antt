-- Lines that are steps and lines that are not, from the definitions by evaluation. Assumes nothing.
use mathlib.Core.Path.{◌≡◌, refl}
use Rattle.records.specs.declared.record.Mode.TheVariants.{Read as ForRead, Write as ForWrite}
use Rattle.protocol.specs.declared.step.Step.TheVariants.{Open, Write}
use Rattle.stepfile.specs.Text.{bytes, decimal, digits_of, values_text}
use Rattle.stepfile.specs.Grammar.{digits_on, numeral, argument, shape_of, shaped, step, parse_line}
use Rattle.stepfile.specs.StepText.{step_text}
use Rattle.std.proofs.Common.{Some, None}

pub record Lines : Type 0 where
  pub one : parse_line (bytes "OW 0 3") ≡ Some (Open ForWrite 0 3)
  pub two : parse_line (bytes "WR 0 3 0 77") ≡ Some (Write 0 3 0 77)
  pub leading : parse_line (bytes "WR 0 3 0 077") ≡ None
  pub largest : parse_line (bytes "OR 18446744073709551615 0") ≡ Some (Open ForRead 18446744073709551615 0)
  pub over : parse_line (bytes "OR 18446744073709551616 0") ≡ None
  pub written : step_text (Write 10 200 0 18446744073709551615) ≡ bytes "WR 10 200 0 18446744073709551615"

pub lines : Lines
unfolding digits_of decimal digits_on numeral argument shape_of shaped step parse_line values_text
lines = record { one = refl; two = refl; leading = refl; largest = refl; over = refl; written = refl }

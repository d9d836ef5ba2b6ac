-- A line is a step if the step takes all of it. Assumes nothing.
use Prim.Native.Nat.{ℕ, ◌≤◌, ◌<◌}
use mathlib.Core.Path.{◌≡◌, sym, ◌∙◌, ap}
use mathlib.Core.List.{List}
use lib.ListN.{length, drop_of_length-le}
use Rattle.std.proofs.Common.{Option, Some, None}
use Rattle.protocol.specs.declared.step.Step.{Step}
use Rattle.stepfile.specs.Grammar.{found, step, alone, parse_line}
use Rattle.stepfile.proofs.Digits.{at_offset}
use Rattle.reader.specs.declared.found.Found.{Found}
use Rattle.reader.specs.Offsets.{found_in}

module _ (l : List ℕ) (r : Option (Found Step)) (read : step l ≡ found_in l r) where
  pub line_missing : r ≡ None → None ≡ parse_line l
  unfolding parse_line
  line_missing e = sym (ap alone (read ∙ ap (found_in l) e))

  module _ (x : Found Step) (is : r ≡ Some x) where
    pub line-longer : x.next < length l → None ≡ parse_line l
    unfolding parse_line
    line-longer h = sym (ap alone (read ∙ ap (found_in l) is ∙ ap (found x.value) (at_offset l x.next h)))

    pub line-whole : length l ≤ x.next → Some x.value ≡ parse_line l
    unfolding parse_line
    line-whole h = sym (ap alone (read ∙ ap (found_in l) is ∙ ap (found x.value) (drop_of_length-le l h)))

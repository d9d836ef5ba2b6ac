-- The lines after a few steps, from the definitions by evaluation. Assumes nothing.
use Prim.Native.Nat.{ℕ}
use mathlib.Core.Path.{◌≡◌, refl}
use mathlib.Core.Bool.{true}
use mathlib.Core.List.{List, [], ◌∷◌, ◌++◌}
use Rattle.sizes.specs.Sizes.{default_sizes}
use Rattle.decision.specs.Lists.{count, stored, first_below}
use Rattle.decision.specs.State.{state_of}
use Rattle.decision.specs.Permission.{permission_at_grant}
use Rattle.access.specs.BlockStep.{block_step}
use Rattle.file.specs.FileStep.{file_step}
use Rattle.table.specs.TableStep.{table_step}
use Rattle.service.specs.Step.{moved, step_of}
use Rattle.service.specs.Space.{spaced, any_below, sum_below}
use Rattle.service.specs.Fresh.{fresh}
use Rattle.stepfile.specs.Text.{bytes, decimal, digits_of}
use Rattle.stepfile.specs.Grammar.{digits_on, numeral, argument, shape_of, shaped, step, parse_line}
use Rattle.stepfile.specs.Setting.{setting_of}
use Rattle.stepfile.specs.Transcript.{lines, after}
use Rattle.stepfile.specs.Played.{service_after, end_of}
use Rattle.image.specs.Bytes.{below, flat}
use Rattle.unsaved.specs.Unsaved.{unsaved_text}

abbrev joined : List (List ℕ) → List ℕ
joined [] = []
joined (l ∷ ls) = l ++ joined ls

-- what is told at the image of the service after these lines
abbrev unsaved : ℕ → List (List ℕ) → List ℕ
unsaved program ls = unsaved_text program (end_of true (fresh default_sizes) (joined ls))

pub record Examples : Type 0 where
  -- nothing is dirty
  pub none : unsaved 0 (bytes "SET 3 4 2\n" ∷ bytes "OW 1 3\n" ∷ []) ≡ []
  -- a block that was flushed is in the image
  pub flushed :
      unsaved 0 (bytes "SET 3 4 2\n" ∷ bytes "OW 1 3\n" ∷ bytes "WR 1 3 1 5\n" ∷ bytes "FL 1 3 1\n" ∷ []) ≡ []
  -- two clients, by client, file and block
  pub some :
      unsaved 0
      (bytes "SET 3 4 2\n"
      ∷ bytes "OW 2 0\n"
      ∷ bytes "WR 2 0 1 8\n"
      ∷ bytes "OW 1 3\n"
      ∷ bytes "WR 1 3 1 5\n"
      ∷ bytes "WR 1 3 0 6\n"
      ∷ bytes "CW 1 3\n"
      ∷ [])
      ≡ joined
      (bytes "play: station 1 file 3 block 0 is dirty, and not in the image\n"
      ∷ bytes "play: station 1 file 3 block 1 is dirty, and not in the image\n"
      ∷ bytes "play: station 2 file 0 block 1 is dirty, and not in the image\n"
      ∷ [])
  pub explained :
      unsaved 1 (bytes "SET 1 1 1\n" ∷ bytes "OW 0 0\n" ∷ bytes "WR 0 0 0 0\n" ∷ [])
      ≡ bytes "explain: station 0 file 0 block 0 is dirty, and not in the image\n"
  pub counted :
      unsaved 2 (bytes "SET 1 1 1\n" ∷ bytes "OW 0 0\n" ∷ bytes "WR 0 0 0 0\n" ∷ [])
      ≡ bytes "traffic: station 0 file 0 block 0 is dirty, and not in the image\n"

pub examples : Examples
unfolding fresh step_of moved spaced any_below sum_below file_step block_step table_step first_below state_of permission_at_grant count stored decimal digits_of digits_on
    numeral argument shape_of shaped step parse_line setting_of lines after service_after below flat
examples = record { none = refl; flushed = refl; some = refl; explained = refl; counted = refl }

-- What is said of the copy at a grant, from whether there is one. Assumes nothing.
use mathlib.Core.Path.{◌≡◌, sym, ◌∙◌}
use mathlib.Core.Bool.{Bool, false, cond}
use mathlib.Core.List.{◌++◌}
use Rattle.records.specs.declared.version.Version.{Version}
use Rattle.records.specs.Version.{number_of, is_no_version}
use Rattle.sizes.proofs.Choosing.{unless}
use Rattle.stepfile.specs.Text.{bytes, argument_text}
use Rattle.phrases.specs.Accepted.{kept_text}

module _ (keep : Bool) (label : Version) (none : Bool) (is : none ≡ is_no_version label) where
  pub copy_text :
      none ≡ false
      → bytes "; its copy of version"
      ++ (argument_text (number_of label) ++ cond keep (bytes " is kept") (bytes " is dropped"))
      ≡ kept_text keep label
  copy_text fails = sym (unless _ _ (sym is ∙ fails))

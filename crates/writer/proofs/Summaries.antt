-- The texts of the summary, as the writer puts them together. Assumes nothing.
use Prim.Native.Nat.{ℕ, ◌+◌}
use mathlib.Core.Path.{◌≡◌, sym, ◌∙◌, ap}
use mathlib.Core.Bool.{Bool, true, false}
use mathlib.Core.List.{List, [], ◌++◌}
use native.Mathlib.Numerals.{add-one}
use lib.ListN.{get_or}
use Rattle.protocol.specs.declared.entry.Entry.{Entry}
use Rattle.table.specs.TableStep.{no_entry}
use Rattle.stepfile.specs.Summary.{code_in, version_in, is_listed, fields_text, file_text, files_text}
use Rattle.sizes.proofs.Choosing.{when, unless}

-- one file more
pub files_next :
    (n : ℕ) (entries : List Entry) (f : ℕ)
    → files_text n (f + 1) entries ≡ files_text n f entries ++ file_text n f (get_or entries f no_entry)
unfolding files_text
files_next n entries f = rw (add-one f)

-- the line of a file that is listed, and of one that is not
module _ (n f : ℕ) (e : Entry) (listed : Bool) (is : listed ≡ is_listed n e) where
  pub file_listed :
      listed ≡ true → (k v : ℕ) → k ≡ code_in n e → v ≡ version_in e → fields_text n f k v e.last ≡ file_text n f e
  file_listed t k v code version =
      ap (λ k. fields_text n f k v e.last) code
      ∙ ap (λ v. fields_text n f (code_in n e) v e.last) version
      ∙ sym (when _ _ (sym is ∙ t))

  pub file_unlisted : listed ≡ false → [] ≡ file_text n f e
  file_unlisted t = sym (unless _ _ (sym is ∙ t))

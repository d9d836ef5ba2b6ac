-- The numbers of a settings line, one after the other, as the reader finds them. Assumes nothing.
use Prim.Native.Nat.{ℕ, ◌<◌}
use mathlib.Core.Path.{◌≡◌, sym, ◌∙◌, ap}
use mathlib.Core.List.{List}
use lib.ListN.{length, drop}
use native.Mathlib.Omega.{arith}
use Rattle.std.proofs.Common.{Option, Some, None, Ok, Err}
use Rattle.std.specs.Option.{ok_or}
use Rattle.sizes.specs.declared.sizes.Sizes.{Sizes}
use Rattle.stepfile.specs.declared.setting.NoSizes.TheVariants.{Missing}
use Rattle.stepfile.specs.Grammar.{found, argument}
use Rattle.stepfile.specs.Setting.{store_at, sizes_at, settled}
use Rattle.reader.specs.declared.found.Found.{Found}
use Rattle.reader.specs.Offsets.{found_in}
use Rattle.stepfile.proofs.Digits.{at_offset}

-- the numbers that the reader goes on with
of_ok : (r : Option (Found Sizes)) (x : Found Sizes) → ok_or r Missing ≡ Ok x → r ≡ Some x
of_ok (Some y) x e = cc
of_ok None x e = let z : ◌≡◌ {A = ℕ} 0 1 = cc in absurd (omega arith)

module _ (s : List ℕ) (at : ℕ) where
  -- the size of the store: given where the bytes do not end
  pub store_given : at < length s → store_at (drop at s) ≡ argument (drop at s)
  store_given h = rw (at_offset s at h)

  -- bytes follow the numbers
  pub more-follows : (r : Option (Found Sizes)) (x : Found Sizes) → sizes_at (drop at s) ≡ found_in s r → ok_or r Missing ≡ Ok x
      → x.next < length s → Err Missing ≡ settled (sizes_at (drop at s))
  more-follows r x read is h =
      sym (ap settled (read ∙ ap (found_in s) (of_ok r x is) ∙ ap (found x.value) (at_offset s x.next h)))

-- Settings lines of three and of four numbers, and lines that are none, by evaluation. Assumes nothing.
use Prim.Native.Nat.{ℕ}
use mathlib.Core.Path.{◌≡◌, refl}
use lib.ListN.{length}
use Rattle.stepfile.specs.declared.setting.NoSizes.TheVariants.{OutOfRange, Missing}
use Rattle.stepfile.specs.Text.{bytes}
use Rattle.stepfile.specs.Grammar.{digits_on, numeral, argument}
use Rattle.stepfile.specs.Setting.{setting_of, Setting}
use Rattle.std.proofs.Common.{Ok, Err}

-- 3 clients, 2 files of 1 block, and a store of this size
abbrev storing : ℕ → Setting
storing m = Ok (record { clients = 3; files = 2; blocks = 1; store = m })

pub record SetLines : Type 0 where
  -- "The store has a size of 0 to 512 blocks, a fourth setting, 512 if not given" (document 02, Wish 13)
  pub not_given : setting_of (bytes "SET 3 2 1") ≡ storing 512
  pub given : setting_of (bytes "SET 3 2 1 7") ≡ storing 7
  pub least : setting_of (bytes "SET 3 2 1 0") ≡ storing 0
  pub most : setting_of (bytes "SET 3 2 1 512") ≡ storing 512
  -- "19 when a setting lies outside its range"
  pub too_large : setting_of (bytes "SET 3 2 1 513") ≡ Err OutOfRange
  pub no_client : setting_of (bytes "SET 0 2 1 7") ≡ Err OutOfRange
  -- the longest settings line
  pub longest :
      setting_of (bytes "SET 18446744073709551615 18446744073709551615 18446744073709551615 18446744073709551615")
      ≡ Err OutOfRange
  pub longest_has :
      length (bytes "SET 18446744073709551615 18446744073709551615 18446744073709551615 18446744073709551615") ≡ 87
  -- two numbers, five, one that is no number, and a space at the end
  pub two : setting_of (bytes "SET 3 2") ≡ Err Missing
  pub five : setting_of (bytes "SET 3 2 1 7 7") ≡ Err Missing
  pub no_number : setting_of (bytes "SET 3 2 1 07") ≡ Err Missing
  pub beyond : setting_of (bytes "SET 3 2 1 18446744073709551616") ≡ Err Missing
  pub space : setting_of (bytes "SET 3 2 1 ") ≡ Err Missing

pub set_lines : SetLines
unfolding setting_of digits_on numeral argument
set_lines =
    record {
      not_given = refl;
      given = refl;
      least = refl;
      most = refl;
      too_large = refl;
      no_client = refl;
      longest = refl;
      longest_has = refl;
      two = refl;
      five = refl;
      no_number = refl;
      beyond = refl;
      space = refl;
    }

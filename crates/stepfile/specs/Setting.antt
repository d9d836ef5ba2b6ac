-- The settings line: "a first line SET with the three numbers" (document 02, Wish 7), and "a fourth setting, 512 if not
-- given" (Wish 13).
use Rattle.std.specs.Prelude.{ℕ, Bool, cond, ◌&&◌, List, [], ◌∷◌, Result, Ok, Err, eqb, get_or, drop}
use Rattle.sizes.specs.declared.sizes.Sizes.{Sizes}
use Rattle.sizes.specs.Sizes.{max_places, are_permitted}
use Rattle.stepfile.specs.declared.setting.NoSizes.{NoSizes}
use Rattle.stepfile.specs.declared.setting.NoSizes.TheVariants.{OutOfRange, Missing}
use Rattle.stepfile.specs.Grammar.{Reading, found, nothing, onward, argument}

-- what a line gives as settings
abbrev pub Setting : Type 0
Setting = Result Sizes NoSizes

-- the word, as ASCII
abbrev pub begins_with_set : List ℕ → Bool
begins_with_set l = eqb (get_or l 0 0) 83 && (eqb (get_or l 1 0) 69 && eqb (get_or l 2 0) 84)

-- "The store has a size of 0 to 512 blocks, a fourth setting, 512 if not given": not given where the line ends
abbrev pub store_at : List ℕ → Reading ℕ
store_at [] = found max_places []
store_at (b ∷ l) = argument (b ∷ l)

-- its three or four numbers: stations, files, blocks, and the size of the store
abbrev pub sizes_at : List ℕ → Reading Sizes
sizes_at l =
    onward (argument l)
    (λ n second.
    onward (argument second)
    (λ f third.
    onward (argument third)
    (λ b fourth.
    onward (store_at fourth)
    (λ m rest. found (record { clients = n; files = f; blocks = b; store = m }) rest))))

-- "19 when a setting lies outside its range"; a line with anything after its numbers is no settings line
abbrev pub settled : Reading Sizes → Setting
settled (found z []) = cond (are_permitted z) (Ok z) (Err OutOfRange)
settled (found z (b ∷ l)) = Err Missing
settled nothing = Err Missing

unfoldable pub setting_of : List ℕ → Setting
setting_of l = cond (begins_with_set l) (settled (sizes_at (drop 3 l))) (Err Missing)

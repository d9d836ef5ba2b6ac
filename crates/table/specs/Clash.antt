-- Whether a report clashes with those that were accepted before, on all files (document 02, Wish 10).
use Rattle.std.specs.Prelude.{ℕ, Bool, ltb}
use Rattle.sizes.specs.declared.sizes.Sizes.{Sizes}
use Rattle.decision.specs.Lists.{first_below}
use Rattle.protocol.specs.declared.client.ClientFile.{ClientFile}
use Rattle.protocol.specs.declared.entry.Entry.{Entry}
use Rattle.protocol.specs.Clash.{clashes_on}

-- the first file in force on which it clashes, the number of the files where there is none: `accepted` says who has
-- reported, `own` what the client says of a file
abbrev pub clash_file : Sizes → (ℕ → Bool) → (ℕ → Entry) → (ℕ → ClientFile) → ℕ
clash_file z accepted entry own = first_below z.files (λ f. clashes_on z.clients accepted (entry f) (own f))

abbrev pub clashes : Sizes → (ℕ → Bool) → (ℕ → Entry) → (ℕ → ClientFile) → Bool
clashes z accepted entry own = ltb (clash_file z accepted entry own) z.files

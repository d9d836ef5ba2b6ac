-- What is said of the store (document 02, Wish 13): its size, how many blocks are used and reserved, and by whom.
use Rattle.std.specs.Prelude.{ℕ, Bool, not, ◌&&◌, List, ◌++◌}
use Rattle.sizes.specs.declared.sizes.Sizes.{Sizes}
use Rattle.table.specs.TableStep.{is_embargoed}
use Rattle.service.specs.Space.{used_in, reserved_in, reserves_any}
use Rattle.stepfile.specs.Text.{bytes, argument_text}
use Rattle.phrases.specs.Phrase.{block_text, list_text}

-- a client without embargo: "Reserved: dirty blocks not used, at stations without embargo."
abbrev pub is_in : List Bool → ℕ → Bool
is_in embargoed i = not (is_embargoed embargoed i)

-- such a client that has reserved a block
abbrev pub reserves : Sizes → List Bool → List Bool → List Bool → ℕ → Bool
reserves z used embargoed dirty i = is_in embargoed i && reserves_any z used dirty i

-- "places: 4; used: 1; reserved: 2"
abbrev pub counts_text : Sizes → List Bool → List Bool → List Bool → List ℕ
counts_text z used embargoed dirty =
    bytes "places:"
    ++ (argument_text z.store
    ++ (bytes "; used:"
    ++ (argument_text (used_in z used)
    ++ (bytes "; reserved:" ++ argument_text (reserved_in z (is_in embargoed) used dirty)))))

-- "places: 4; used: 1; reserved: 2; reserved by stations: 0 2"
abbrev pub places_text : Sizes → List Bool → List Bool → List Bool → List ℕ
places_text z used embargoed dirty =
    counts_text z used embargoed dirty
    ++ (bytes "; reserved by stations:" ++ list_text z.clients (reserves z used embargoed dirty))

-- 23: "such a write finds nothing free"
abbrev pub no_place_text : Sizes → List Bool → List Bool → List Bool → ℕ → ℕ → List ℕ
no_place_text z used embargoed dirty f b =
    bytes "no place is free for" ++ (block_text f b ++ (bytes "; " ++ places_text z used embargoed dirty))

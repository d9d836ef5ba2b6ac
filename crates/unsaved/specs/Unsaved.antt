-- What an image does not have: a block that is dirty at a client is not at the server yet. Standard error has a line
-- for each, by client, file and block. A client is called a station there.
use Rattle.std.specs.Prelude.{ℕ, Bool, List, ◌++◌}
use Rattle.sizes.specs.declared.sizes.Sizes.{Sizes}
use Rattle.service.specs.declared.service.Service.{Service}
use Rattle.service.specs.Contents.{sizes_of, dirty_at}
use Rattle.stepfile.specs.Text.{bytes, argument_text}
use Rattle.options.specs.Program.{program_name}
use Rattle.phrases.specs.Phrase.{client_text}
use Rattle.image.specs.Bytes.{below, entry_if, flat}

-- the name of the program that tells it
abbrev pub program_text : ℕ → List ℕ
program_text program = program_name program ++ bytes ": "

-- "play: station 2 file 3 block 0 is dirty, and not in the image"
abbrev pub line_text : ℕ → ℕ → ℕ → ℕ → List ℕ
line_text program i f b =
    program_text program
    ++ (client_text i
    ++ (bytes " file"
    ++ (argument_text f ++ (bytes " block" ++ (argument_text b ++ bytes " is dirty, and not in the image\n")))))

-- the lines of a file's n blocks at client i; of its files; and of all clients. The test tells whether a client's copy
-- of a file's block is dirty.
abbrev pub block_lines : ℕ → ℕ → (ℕ → ℕ → ℕ → Bool) → ℕ → ℕ → List (List ℕ)
block_lines program n dirty i f = below n (λ b. entry_if (dirty i f b) (line_text program i f b))

abbrev pub file_lines : ℕ → Sizes → (ℕ → ℕ → ℕ → Bool) → ℕ → List (List ℕ)
file_lines program z dirty i = below z.files (λ f. block_lines program z.blocks dirty i f)

abbrev pub client_lines : ℕ → Sizes → (ℕ → ℕ → ℕ → Bool) → List (List ℕ)
client_lines program z dirty = below z.clients (λ i. file_lines program z dirty i)

-- of any service
abbrev pub unsaved_text : ℕ → Service → List ℕ
unsaved_text program s = flat (client_lines program (sizes_of s) (dirty_at s))

-- the room that the lines are given, 122 bytes for each of 4,096 blocks: more than they take
abbrev pub unsaved_room : ℕ
unsaved_room = 499712

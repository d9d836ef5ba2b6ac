-- The lines of two numbers that name one program are the same. Assumes nothing.
use Rattle.std.proofs.Common.{ℕ, ◌≡◌, List, ap, ◌++◌}
use Rattle.service.specs.declared.service.Service.{Service}
use Rattle.service.specs.Contents.{sizes_of, dirty_at}
use Rattle.stepfile.specs.Text.{bytes, argument_text}
use Rattle.options.specs.Program.{program_name}
use Rattle.phrases.specs.Phrase.{client_text}
use Rattle.image.specs.Bytes.{below, entry_if, flat}
use Rattle.unsaved.specs.Unsaved.{unsaved_text}

-- the lines, by the name
abbrev lines_by : List ℕ → Service → List ℕ
lines_by name s =
    flat
    (below (sizes_of s).clients (λ i.
    below (sizes_of s).files (λ f.
    below (sizes_of s).blocks (λ b.
    entry_if (dirty_at s i f b)
    ((name ++ bytes ": ")
    ++ (client_text i
    ++ (bytes " file"
    ++ (argument_text f ++ (bytes " block" ++ (argument_text b ++ bytes " is dirty, and not in the image\n"))))))))))

pub same_named : (m n : ℕ) (s : Service) → program_name m ≡ program_name n → unsaved_text m s ≡ unsaved_text n s
same_named m n s same = ap (λ (name : List ℕ). lines_by name s) same

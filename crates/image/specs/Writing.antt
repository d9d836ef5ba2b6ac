-- Writing the image into a lent buffer: what is answered, and what the buffer holds then.
use Rattle.std.specs.Prelude.{ℕ, ◌≡◌, Bool, ⊤, Ok, Err, cond, List, [], ◌∷◌, ltb, length}
use Rattle.std.specs.declared.result.Result.{Result}
use Rattle.decision.specs.Lists.{count, first_of}
use Rattle.protocol.specs.Entry.{waits}
use Rattle.protocol.specs.declared.refusal.Refusal.{Refusal}
use Rattle.protocol.specs.declared.refusal.Refusal.TheVariants.{InRecovery, OpenWaitsAtWriting, BufferTooShort}
use Rattle.protocol.specs.Refusal.{Test, tested, in_recovery}
use Rattle.protocol.specs.Refused.{number_of, refusal_if}
use Rattle.writer.specs.Buffer.{written}
use Rattle.service.specs.declared.service.Service.{Service}
use Rattle.service.specs.Contents.{sizes_of, table_in, entry_at}
use Rattle.image.specs.Image.{image_of}

-- how many files in force have an open that waits
abbrev pub open_waiting : Service → ℕ
open_waiting s = count (sizes_of s).files (λ f. waits (sizes_of s).clients (entry_at s f))

-- "15 when an open waits at writing; 16 when the buffer is too short"
abbrev pub some_open_waits : Service → Test
some_open_waits s = (ltb 0 (open_waiting s), 15)

abbrev pub buffer_too_short : Service → ℕ → Test
buffer_too_short s room = (ltb room (length (image_of s)), 16)

-- "Writing tests 5, 15, 16"
abbrev pub image_tests : Service → ℕ → List Test
image_tests s room = in_recovery (table_in s).recovering ∷ some_open_waits s ∷ buffer_too_short s room ∷ []

-- the refusal of the first of them that holds
abbrev pub refusal_to_write : Bool → Bool → Bool → Result ⊤ Refusal
refusal_to_write recovering waits short =
    cond recovering (Err InRecovery) (cond waits (Err OpenWaitsAtWriting) (refusal_if short BufferTooShort))

abbrev pub refused_or : Result ⊤ Refusal → ℕ → Result ℕ Refusal
refused_or (Ok x) n = Ok n
refused_or (Err r) n = Err r

-- "The length is told", for a buffer of so many bytes
unfoldable pub image_written : Service → ℕ → Result ℕ Refusal
image_written s room =
    let n = length (image_of s) in
    refused_or (refusal_to_write (table_in s).recovering (ltb 0 (open_waiting s)) (ltb room n)) n

-- "When an answer is an enum, a definition gives this paper's number and values for each case of that enum" (document
-- 01): the number of the refusal, 0 for none, ..
abbrev pub refusal_of : Result ℕ Refusal → ℕ
refusal_of (Ok n) = 0
refusal_of (Err r) = number_of r

-- .. and what is told: the length; "A refusal gives only its number"
abbrev pub values_of : Result ℕ Refusal → List ℕ
values_of (Ok n) = n ∷ []
values_of (Err r) = []

-- What is promised of an answer, by its number and values: the number of the first test that holds; where none does, 0
-- and the length.
pub record Tells (s : Service) (room : ℕ) (r : Result ℕ Refusal) : Type 0 where
  pub refusal : refusal_of r ≡ first_of (image_tests s room)
  pub values : values_of r ≡ tested (image_tests s room) (λ k. []) (length (image_of s) ∷ [])

-- "bytes past it stay"; refused, "every lent buffer" stays as it came (document 01)
unfoldable pub buffer_after : Service → List ℕ → List ℕ
buffer_after s out = tested (image_tests s (length out)) (λ k. out) (written out 0 (image_of s))

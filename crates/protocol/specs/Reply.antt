-- Document 01's letter and values for each case of a reply, and of what a step brings to others.
use Rattle.std.specs.Prelude.{ℕ, Bool, true, false, cond, List, [], ◌∷◌, ◌++◌, eqb, take, replicate}
use Rattle.protocol.specs.declared.reply.Grant.{Grant}
use Rattle.protocol.specs.declared.reply.Granting.{Granting}
use Rattle.protocol.specs.declared.reply.Reply.{Reply}
use Rattle.protocol.specs.declared.reply.Reply.TheVariants.{Granted, Waiting, Value, Refused, Answered}
use Rattle.protocol.specs.declared.reply.Reply.TheVariants.{AnsweredGrant, Done}
use Rattle.records.specs.Version.{number_of, no_version}
use Rattle.sizes.specs.Sizes.{max_clients, max_files, nobody}

-- "G latest previous permission (0 or 1)"
abbrev pub grant_values : Grant → List ℕ
grant_values g = number_of g.latest ∷ number_of g.previous ∷ cond g.caching 1 0 ∷ []

-- the letter, as ASCII: "G ..; or W ..; or V value; or N refusal; or A ..; else K"
abbrev pub letter_of : Reply → ℕ
letter_of (Granted g) = 71
letter_of Waiting = 87
letter_of (Value v) = 86
letter_of (Refused k) = 78
letter_of (Answered n) = 65
letter_of (AnsweredGrant n i g) = 65
letter_of Done = 75

-- the numbers that follow the letter; those of Waiting are its calls, which stand beside the reply. How many blocks
-- came back is printed "directly after A, before any grant" (document 02, Wish 5).
abbrev pub values_of : Reply → List ℕ
values_of (Granted g) = grant_values g
values_of Waiting = []
values_of (Value v) = v ∷ []
values_of (Refused k) = k ∷ []
values_of (Answered n) = n ∷ []
values_of (AnsweredGrant n i g) = n ∷ i ∷ grant_values g
values_of Done = []

-- "A step is accepted when its reply is not a refusal; an open that waits is accepted."
abbrev pub is_refused : Reply → Bool
is_refused (Granted g) = false
is_refused Waiting = false
is_refused (Value v) = false
is_refused (Refused k) = true
is_refused (Answered n) = false
is_refused (AnsweredGrant n i g) = false
is_refused Done = false

-- the calls that stand beside a reply: a kind for each client, 0 for none; here none goes out
abbrev pub no_calls : List ℕ
no_calls = replicate max_clients 0

-- ---- the opens of others that a step grants

-- the one that a step on a file grants
abbrev pub brought : Reply → List Granting
brought (Granted g) = []
brought Waiting = []
brought (Value v) = []
brought (Refused k) = []
brought (Answered n) = []
brought (AnsweredGrant n i g) = record { client = i; grant = g } ∷ []
brought Done = []

-- they stand beside a reply in so many places as there can be files; past the last of them stands this
abbrev pub no_granting : Granting
no_granting =
    record { client = nobody; grant = record { latest = no_version; previous = no_version; caching = false } }

abbrev pub no_grants : List Granting
no_grants = replicate max_files no_granting

abbrev pub placed : List Granting → List Granting
placed gs = take max_files (gs ++ no_grants)

-- "K, then each granted open as after A" (document 02, Wish 8): its client, and the numbers of the grant
unfoldable pub grants_values : List Granting → List ℕ
grants_values [] = []
grants_values (g ∷ gs) =
    cond (eqb g.client nobody) [] ((g.client ∷ grant_values g.grant) ++ grants_values gs)

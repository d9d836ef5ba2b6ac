-- Refusals, counted by their numbers.
use Rattle.std.specs.Prelude.{ℕ, ◌+◌, cond, List, ltb, get_or, set, replicate}
use Rattle.protocol.specs.declared.reply.Reply.{Reply}
use Rattle.protocol.specs.declared.reply.Reply.TheVariants.{Granted, Waiting, Value, Refused, Answered}
use Rattle.protocol.specs.declared.reply.Reply.TheVariants.{AnsweredGrant, Done}

-- the numbers of refusals lie below this: 23 is the largest
abbrev pub refusal_numbers : ℕ
refusal_numbers = 24

-- the largest count; there are fewer lines in any run
abbrev pub largest_count : ℕ
largest_count = 18446744073709551615

abbrev pub one_more : ℕ → ℕ
one_more count = cond (ltb count largest_count) (count + 1) count

-- how often each number was given
abbrev pub no_refusals : List ℕ
no_refusals = replicate refusal_numbers 0

abbrev pub times_refused : List ℕ → ℕ → ℕ
times_refused counts k = get_or counts k 0

abbrev pub counted : ℕ → List ℕ → List ℕ
counted k counts = cond (ltb k refusal_numbers) (set counts k (one_more (times_refused counts k))) counts

-- the counts after a reply
abbrev pub refusals_after : Reply → List ℕ → List ℕ
refusals_after (Granted g) counts = counts
refusals_after Waiting counts = counts
refusals_after (Value v) counts = counts
refusals_after (Refused k) counts = counted k counts
refusals_after (Answered n) counts = counts
refusals_after (AnsweredGrant n i g) counts = counts
refusals_after Done counts = counts

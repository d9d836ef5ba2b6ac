-- The outcome of a step, from any service: what the step on a file, on a block, on the table or on all files leaves, put
-- in its place, and what becomes of the store.
use Rattle.std.specs.Prelude.{ℕ, Bool}
use Rattle.protocol.specs.Step.{Class}
use Rattle.protocol.specs.Step.{OnFile, OnBlock, OnTable, OnAll}
use Rattle.protocol.specs.declared.step.Step.{Step}
use Rattle.protocol.specs.Step.{class_of, client_of}
use Rattle.access.specs.BlockStep.{BlockAfter, block_step}
use Rattle.protocol.specs.Reply.{is_refused, no_calls, no_grants}
use Rattle.file.specs.FileStep.{FileAfter, file_step}
use Rattle.table.specs.declared.table.TableOutcome.{TableOutcome}
use Rattle.table.specs.TableStep.{table_step}
use Rattle.service.specs.declared.service.Service.{Service}
use Rattle.service.specs.declared.outcome.Outcome.{Outcome}
use Rattle.service.specs.Contents.{sizes_of, table_in, reported_at, client_at, file_at, stores_of, with_file}
use Rattle.service.specs.Contents.{embargoed_at, with_stores, with_table}
use Rattle.service.specs.Embargo.{all_step}
use Rattle.service.specs.Space.{takes_place, is_full, spaced}

abbrev pub file_outcome : Service → ℕ → FileAfter → Outcome
file_outcome s f o =
    record { service = with_file s f o.file o.stores; reply = o.reply; calls = o.calls; grants = no_grants }

abbrev pub block_outcome : Service → BlockAfter → Outcome
block_outcome s o =
    record { service = with_stores s o.stores; reply = o.reply; calls = no_calls; grants = no_grants }

abbrev pub table_outcome : Service → TableOutcome → Outcome
table_outcome s o =
    record { service = with_table s o.table; reply = o.reply; calls = no_calls; grants = no_grants }

-- but for the store; `takes` says whether the step takes a free place, `full` whether none is free
abbrev pub outcome_in : Bool → Bool → Service → Step → Class → Outcome
outcome_in takes full s x (OnFile f) =
    file_outcome s f
    (file_step (sizes_of s) (embargoed_at s (client_of x)) (table_in s).recovering (file_at s f) (stores_of s) x)
outcome_in takes full s x (OnBlock i f) =
    block_outcome s
    (block_step (sizes_of s) (embargoed_at s i) (table_in s).recovering (reported_at s i) (client_at s i f) takes full (stores_of s) x)
outcome_in takes full s x OnTable = table_outcome s (table_step (sizes_of s) (table_in s) s.clients x)
outcome_in takes full s x OnAll = all_step (sizes_of s) s x

unfoldable pub moved : Bool → Bool → Service → Step → Outcome
moved takes full s x = outcome_in takes full s x (class_of x)

-- what was left, with the store as the step leaves it
abbrev pub with_store : Service → Step → Outcome → Outcome
with_store s x o =
    record {
      service = spaced s x (is_refused o.reply) o.service;
      reply = o.reply;
      calls = o.calls;
      grants = o.grants;
    }

unfoldable pub step_of : Service → Step → Outcome
step_of s x = with_store s x (moved (takes_place s x) (is_full s) s x)

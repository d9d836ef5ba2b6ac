-- What is put together from what the part of a step leaves is the outcome that the definition of the step gives, but for
-- the store.
-- Assumes nothing.
use Prim.Native.Nat.{ℕ, ◌%◌}
use mathlib.Core.Path.{◌≡◌, sym, ap, ap₂, ◌∙◌}
use mathlib.Core.Bool.{Bool}
use mathlib.Core.List.{List}
use Rattle.sizes.specs.declared.sizes.Sizes.{Sizes}
use Rattle.sizes.specs.Sizes.{max_clients, max_files}
use Rattle.protocol.specs.declared.entry.Entry.{Entry}
use Rattle.protocol.specs.declared.reply.Reply.{Reply}
use Rattle.protocol.specs.Step.{OnFile, OnBlock, OnTable}
use Rattle.protocol.specs.declared.step.Step.{Step}
use Rattle.protocol.specs.Step.{class_of, client_of}
use Rattle.blocks.specs.declared.stores.Stores.{Stores}
use Rattle.access.specs.BlockStep.{block_step}
use Rattle.access.specs.BlockStep.{Leaves as LeavesBlock}
use Rattle.protocol.specs.Reply.{no_calls, no_grants}
use Rattle.file.specs.FileStep.{file_step}
use Rattle.table.specs.declared.recovery.RecoveryOutcome.{RecoveryOutcome}
use Rattle.table.specs.TableStep.{clashing, table_step}
use Rattle.table.specs.Recovery.{recovery_step, files_after, table_after}
use Rattle.table.proofs.Steps.{recovery_in, reporter, as_taken}
use Rattle.service.specs.declared.service.Service.{Service}
use Rattle.service.specs.declared.outcome.Outcome.{Outcome}
use Rattle.service.specs.Contents.{sizes_of, table_in, reported_at, embargoed_at, client_at, file_at, stores_of, with_stores}
use Rattle.service.specs.Step.{file_outcome, block_outcome, table_outcome, moved}
use Rattle.service.proofs.Arms.{file_arm, block_arm, table_arm}

module _ (takes full : Bool) (s : Service) (x : Step) (z : Sizes) (in_force : z ≡ sizes_of s) where
  pub file_result :
      (f : ℕ)
      → class_of x ≡ OnFile f
      → file_outcome s (f % max_files)
      (file_step z (embargoed_at s (client_of x % max_clients)) (table_in s).recovering (file_at s (f % max_files)) (stores_of s) x)
      ≡ moved takes full s x
  file_result f class =
      ap
      (λ (z : Sizes).
      file_outcome s (f % max_files)
      (file_step z (embargoed_at s (client_of x % max_clients)) (table_in s).recovering (file_at s (f % max_files)) (stores_of s) x))
      in_force
      ∙ sym (file_arm takes full s x f class)

  pub block_result :
      (i f : ℕ) (reply : Reply) (left : Stores)
      → class_of x ≡ OnBlock i f
      → LeavesBlock
      (block_step z (embargoed_at s (i % max_clients)) (table_in s).recovering (reported_at s (i % max_clients))
      (client_at s (i % max_clients) (f % max_files))
      takes
      full
      (stores_of s)
      x)
      reply left
      → record { service = with_stores s left; reply = reply; calls = no_calls; grants = no_grants } ≡ moved takes full s x
  block_result i f reply left class l =
      ap₂ (λ (r : Reply) (a : Stores). record { service = with_stores s a; reply = r; calls = no_calls; grants = no_grants })
      l.reply_after
      l.stores_after
      ∙ ap
      (λ (z : Sizes).
      block_outcome s
      (block_step z (embargoed_at s (i % max_clients)) (table_in s).recovering (reported_at s (i % max_clients))
      (client_at s (i % max_clients) (f % max_files))
      takes
      full
      (stores_of s)
      x))
      in_force
      ∙ sym (block_arm takes full s x i f class)

  -- the state of the recovery, and the entries
  abbrev recovered : List Entry → RecoveryOutcome → Outcome
  recovered entries o =
      table_outcome s
      (record {
        table =
            record {
              files = entries;
              recovering = o.recovery.recovering;
              reported = o.recovery.reported;
              embargoed = o.recovery.embargoed;
            };
        reply = o.reply;
      })

  pub table_result :
      (o : RecoveryOutcome) (entries : List Entry)
      → class_of x ≡ OnTable
      → o ≡ recovery_step z (recovery_in (table_in s)) (clashing z (table_in s) s.clients (reporter x)) x
      → entries ≡ files_after z o.sweep (table_in s).files s.clients
      → recovered entries o ≡ moved takes full s x
  table_result o entries class is done =
      ap (λ (l : List Entry). recovered l o) done
      ∙ ap (λ (r : RecoveryOutcome). table_outcome s (table_after z (table_in s).files s.clients r)) is
      ∙ ap (table_outcome s) (sym (as_taken z (table_in s) s.clients x))
      ∙ ap (λ (z : Sizes). table_outcome s (table_step z (table_in s) s.clients x)) in_force
      ∙ sym (table_arm takes full s x class)

-- `open` meets its contract: refused, granted or waiting, by what its parts give. Assumes nothing.
use Prim.Native.Nat.{ℕ, ◌+◌, ◌%◌, ◌<◌}
use mathlib.Core.Path.{◌≡◌, refl, ap, ◌∙◌}
use mathlib.Core.Bool.{Bool}
use mathlib.Core.List.{List}
use native.Mathlib.Omega.{arith}
use Rattle.records.specs.declared.record.Mode.{Mode}
use Rattle.sizes.specs.declared.sizes.Sizes.{Sizes}
use Rattle.sizes.specs.Sizes.{Permitted, max_clients, max_files}
use Rattle.decision.specs.Lists.{first_of}
use Rattle.protocol.specs.declared.client.ClientFile.{ClientFile}
use Rattle.protocol.specs.declared.entry.Entry.{Entry}
use Rattle.protocol.specs.declared.reply.Reply.TheVariants.{Granted, Waiting}
use Rattle.protocol.specs.declared.shared.SharedFile.{SharedFile}
use Rattle.protocol.specs.Client.{side_of}
use Rattle.protocol.specs.Entry.{calls_due, grant_of, waiting_entry}
use Rattle.protocol.specs.Refusal.{Test, open_tests}
use Rattle.protocol.specs.Refused.{refusal_in}
use Rattle.protocol.specs.Reply.{no_calls}
use Rattle.protocol.proofs.Tested.{named}
use Rattle.words.specs.Words.{side_held}
use Rattle.words.specs.Rows.{word_at, entry_held, sides_held, file_held}
use Rattle.file.proofs.OpenStep.{open-granted, open-waits}
use Rattle.file.proofs.Taking.{open_step, puts_as, holds_as, refused_holds, not_refused}
use Rattle.file.proofs.Wrapping.{later, wrapped_tests, wrapped_side}
use Rattle.file.proofs.opening.open.Goals as goal

-- what is known once the refusal k is, of the entry e and the side that were loaded
module _
    (z : Sizes)
    (embargoed recovering : Bool)
    (t : List ℕ)
    (mode : Mode)
    (i f : ℕ)
    (e : Entry)
    (own : ClientFile)
    (k : ℕ)
    (p : Permitted z)
    (loaded : e ≡ entry_held t (f % max_files))
    (side : own ≡ side_held (word_at t (f % max_files) (10 + i % max_clients)))
    (tested : k ≡ first_of (open_tests z embargoed recovering e own mode i f)) where
  abbrev tests : ClientFile → List Test
  tests own = open_tests z embargoed recovering (entry_held t (f % max_files)) own mode i f

  tests-of : k ≡ first_of (tests (side_of (sides_held t (f % max_files)) i))
  tests-of =
      tested
      ∙ ap (λ (e : Entry). first_of (open_tests z embargoed recovering e own mode i f)) loaded
      ∙ wrapped_tests z t (f % max_files) i own (λ own. later (tests own)) p side

  there : k ≡ 0 → (i < z.clients) × (f < z.files)
  there none =
      let (client, file, _) = named z i f k _ tests-of none in
      (client, file)

pub returns-in-Err : goal.returns-in-Err
returns-in-Err c =
    let a = c.args in
    let file = file_held a.table.now (a.file % max_files) in
    refused_holds (open_tests a.sizes a.embargoed a.recovering file.entry (side_of file.sides a.client) a.mode a.client a.file) _
    (open_step a.sizes a.embargoed a.recovering file a.stores.now a.mode a.client a.file)
    (tests-of a.sizes a.embargoed a.recovering a.table.now a.mode a.client a.file _ _ _ c.requires.permitted
    c.entry_at-entry.ensures c.side_of-own.ensures c.open_refusal.ensures)
    c.in-Err.is c.from.ensures

pub grant_open-requires-clause-opener_value : goal.grant_open-requires-clause-opener_value
grant_open-requires-clause-opener_value c =
    let a = c.args in
    let (client, file) = there a.sizes a.embargoed a.recovering a.table.now a.mode a.client a.file _ _ _ c.requires.permitted
    c.entry_at-entry.ensures c.side_of-own.ensures c.open_refusal.ensures (ap refusal_in c.in_default.is) in
    let below : a.client < max_clients = omega (arith, client, c.requires.permitted.clients) in
    wrapped_side a.table.now (a.file % max_files) a.client c.side_of-own.result below c.side_of-own.ensures

pub returns-then-count_calls-eq0 : goal.returns-then-count_calls-eq0
returns-then-count_calls-eq0 c =
    let a = c.args in
    let loaded = c.entry_at-entry.ensures in
    let grant = c.grant-grant in
    holds_as
    (open-granted a.sizes a.embargoed a.recovering (file_held a.table.now (a.file % max_files)) a.stores.now
    a.mode a.client a.file
    c.calls_due-calls.result c.count_calls.result c.requires.permitted.clients
    (tests-of a.sizes a.embargoed a.recovering a.table.now a.mode a.client a.file _ _ _ c.requires.permitted
    loaded c.side_of-own.ensures c.open_refusal.ensures)
    c.in_default.is
    (c.calls_due-calls.ensures ∙ ap (λ (e : Entry). calls_due a.sizes.clients e a.client a.mode no_calls) loaded)
    c.count_calls.ensures grant.result c.if-count_calls-eq0.true
    (grant.ensures ∙ ap (λ (e : Entry). grant_of a.sizes.clients e a.client a.mode) loaded))
    (c.grant_open.ensures (Granted grant.result) refl)

pub returns : goal.returns
returns c =
    let a = c.args in
    let file : SharedFile = file_held a.table.now (a.file % max_files) in
    let loaded = c.entry_at-entry.ensures in
    let due : c.calls_due-calls.result ≡ calls_due a.sizes.clients file.entry a.client a.mode no_calls =
    c.calls_due-calls.ensures ∙ ap (λ (e : Entry). calls_due a.sizes.clients e a.client a.mode no_calls) loaded in
    let waits : c.waiting-waits.result ≡ waiting_entry a.sizes.clients file.entry a.client a.mode =
    c.waiting-waits.ensures ∙ ap (λ (e : Entry). waiting_entry a.sizes.clients e a.client a.mode) loaded in
    holds_as
    (open-waits a.sizes a.embargoed a.recovering file a.stores.now a.mode a.client a.file
    c.calls_due-calls.result c.count_calls.result c.requires.permitted.clients
    (tests-of a.sizes a.embargoed a.recovering a.table.now a.mode a.client a.file _ _ _ c.requires.permitted
    loaded c.side_of-own.ensures c.open_refusal.ensures)
    c.in_default.is due c.count_calls.ensures c.if-count_calls-eq0.false)
    (record {
      puts = puts_as (ap (λ (e : Entry). record { entry = e; sides = file.sides }) waits) c.put_head.ensures;
      reply_after = refl;
      calls_after = due;
      stores_after = refl;
      refused = not_refused Waiting refl;
    })

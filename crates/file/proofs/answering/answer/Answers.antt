-- `answer` meets its contract: refused, or answered, with the waiting open granted or not. Assumes nothing.
use Prim.Native.Nat.{ℕ, ◌%◌, ◌<◌}
use mathlib.Core.Path.{◌≡◌, sym, ap, ◌∙◌}
use mathlib.Core.Bool.{Bool}
use mathlib.Core.List.{List}
use native.Mathlib.Nat.{mod-eq_of_lt}
use native.Mathlib.Omega.{arith}
use Rattle.sizes.specs.declared.sizes.Sizes.{Sizes}
use Rattle.sizes.specs.Sizes.{Permitted, max_clients, max_files, first_cell}
use Rattle.decision.specs.Lists.{first_of}
use Rattle.protocol.specs.declared.entry.Entry.{Entry}
use Rattle.protocol.specs.declared.shared.SharedFile.{SharedFile}
use Rattle.protocol.specs.Client.{side_of, with_side, answered_client}
use Rattle.protocol.specs.Entry.{call_to, answered_entry}
use Rattle.protocol.specs.Refusal.{answer_tests}
use Rattle.protocol.specs.Refused.{refusal_in}
use Rattle.protocol.proofs.Tested.{named}
use Rattle.words.specs.Rows.{entry_held, file_held}
use Rattle.blocks.specs.declared.stores.Stores.{Stores}
use Rattle.blocks.specs.Stores.{sent_blocks}
use Rattle.blocks.proofs.Wrapped.{wrapped_cell, wrapped_place}
use Rattle.file.specs.FileStep.{answered as answered_file}
use Rattle.file.proofs.AnswerStep.{answer-done}
use Rattle.file.proofs.AnsweredRow.{answered_others}
use Rattle.file.proofs.Leaving.{answer_holds}
use Rattle.file.proofs.Lending.{answered, sent_blocks_lem}
use Rattle.file.proofs.Taking.{answer_step, holds_as, refused_holds}
use Rattle.file.proofs.Wrapping.{wrapped_side}
use Rattle.file.proofs.answering.answer.Goals as goal

-- what is known once the refusal k is, of the entry e that was loaded
module _
    (z : Sizes)
    (embargoed recovering : Bool)
    (t : List ℕ)
    (i f : ℕ)
    (e : Entry)
    (k : ℕ)
    (loaded : e ≡ entry_held t (f % max_files))
    (tested : k ≡ first_of (answer_tests z embargoed recovering e i f)) where
  tests-of : k ≡ first_of (answer_tests z embargoed recovering (entry_held t (f % max_files)) i f)
  tests-of = tested ∙ ap (λ (e : Entry). first_of (answer_tests z embargoed recovering e i f)) loaded

  there : Permitted z → k ≡ 0 → (i < max_clients) × (f < z.files) × (f < max_files)
  there p none =
      let (client, file, _) = named z i f k _ tests-of none in (
        omega (arith, client, p.clients),
        file,
        omega (arith, file, p.files),
      )

pub returns-in-Err : goal.returns-in-Err
returns-in-Err c =
    let a = c.args in
    let file = file_held a.table.now (a.file % max_files) in
    refused_holds (answer_tests a.sizes a.embargoed a.recovering file.entry a.client a.file) _
    (answer_step a.sizes a.embargoed a.recovering file a.stores.now a.client a.file)
    (tests-of a.sizes a.embargoed a.recovering a.table.now a.client a.file _ _ c.entry_at-entry.ensures c.answer_refusal.ensures)
    c.in-Err.is c.from.ensures

pub put_own-requires-clause-by_index : goal.put_own-requires-clause-by_index
put_own-requires-clause-by_index c =
    let a = c.args in
    let known = there a.sizes a.embargoed a.recovering a.table.now a.client a.file _ _ c.entry_at-entry.ensures
    c.answer_refusal.ensures c.requires.permitted (ap refusal_in c.in_default.is) in
    answered_others a.table.now (a.file % max_files) a.client (a.client % max_clients) c.call_to-kind.result _ c.answered-answered.result
    c.entry_at-entry.ensures
    c.answered-answered.ensures
    (mod-eq_of_lt known.0)

pub returns : goal.returns
returns c =
    let a = c.args in
    let t = a.table.now in
    let row = a.file % max_files in
    let file : SharedFile = file_held t row in
    let stores : Stores = a.stores.now in
    let loaded = c.entry_at-entry.ensures in
    let tests = tests-of a.sizes a.embargoed a.recovering t a.client a.file _ _ loaded c.answer_refusal.ensures in
    let known = there a.sizes a.embargoed a.recovering t a.client a.file _ _ loaded c.answer_refusal.ensures
    c.requires.permitted (ap refusal_in c.in_default.is) in
    let kind = c.call_to-kind.result in
    let kind-of : kind ≡ call_to a.sizes.clients file.entry a.client =
    c.call_to-kind.ensures ∙ ap (λ (e : Entry). call_to a.sizes.clients e a.client) loaded in
    let left = answered_file a.sizes a.file file stores a.client kind in
    let then : SharedFile = record {
      entry = c.answered-answered.result;
      sides = with_side file.sides (a.client % max_clients) c.answered.result;
    } in
    let own : c.answered.result ≡ answered_client kind (side_of file.sides a.client) =
    c.answered.ensures
    ∙ ap (answered_client kind) (sym (wrapped_side t row a.client c.side_of-own.result known.0 c.side_of-own.ensures)) in
    let file-left : then ≡ left.file =
    λ k.
    record {
      entry = (c.answered-answered.ensures ∙ ap (λ (e : Entry). answered_entry e a.client kind) loaded) k;
      sides = with_side file.sides (mod-eq_of_lt known.0 k) (own k);
    } in
    let at : c.first_cell.result ≡ first_cell a.client a.file =
    c.first_cell.ensures.value ∙ wrapped_cell a.client a.file known.0 known.2 in
    let sent = c.answer_blocks-sent in
    let stores' = sent.new.self in
    let stores-left : stores' ≡ left.stores =
    answered a.sizes.blocks a.client a.file stores kind c.first_cell.result c.first_place.result stores' at
    (c.first_place.ensures.value ∙ wrapped_place a.file known.2)
    sent.ensures.blocks_after
    sent.ensures.copies_after
    sent.ensures.held_after
    sent.ensures.dirty_after in
    let told : sent.result ≡ sent_blocks a.sizes.blocks kind a.client a.file stores =
    sent_blocks_lem a.sizes.blocks a.client a.file stores kind
    c.first_cell.result sent.result at sent.ensures.value in
    holds_as
    (answer-done a.sizes a.embargoed a.recovering file stores a.client a.file
    tests c.in_default.is kind sent.result then stores' kind-of file-left stores-left told)
    (answer_holds a.sizes a.file sent.result then stores' c.put_own.ensures c.grant_if_last.ensures)

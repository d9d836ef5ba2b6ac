-- `embargo_client` meets its contract: it is refused as its tests say, or the server forgets the client on all files.
-- Assumes nothing.
use Rattle.std.proofs.Common.{ℕ, ◌+◌, ◌*◌, ◌<◌, ◌≤◌, ◌≡◌, refl, sym, ap, ◌∙◌, List, [], ◌∷◌, length, arith}
use borrow.Author.Tests.{ne_eqb}
use Rattle.decision.specs.Lists.{first_of}
use Rattle.protocol.specs.declared.entry.Entry.{Entry}
use Rattle.protocol.specs.declared.step.Step.TheVariants.{Embargo}
use Rattle.protocol.specs.Refusal.{embargo_tests}
use Rattle.protocol.specs.Refused.{refusal_in}
use Rattle.protocol.proofs.Refused.{numbered}
use Rattle.words.specs.Said.{said_room}
use Rattle.service.specs.Lent.{recovering_held}
use Rattle.service.proofs.EmbargoServing.{begun_sent, refused_moves, embargo_tested, embargo_moves}
use Rattle.service.proofs.held_service.HeldService.embargo_client.Goals as goal

words-some : (words : List ℕ) → length words ≡ said_room → 0 < length words
words-some words is = omega (arith, is)

pub returns-in-Err : goal.returns-in-Err
returns-in-Err c =
    let a = c.args in
    let stores = a.self.now.stores in
    refused_moves a.sizes (Embargo a.client a.file) _ a.self.now.table a.self.now.flags
    stores a.words.now _ _
    (λ given.
    embargo_tested a.sizes given a.self.now.table a.self.now.flags stores a.client a.file c.requires.permitted
    ∙ ap
    (λ (e : Entry). first_of (embargo_tests a.sizes (recovering_held a.self.now.flags) e a.client a.file))
    (sym c.entry_at-entry.ensures)
    ∙ sym c.embargo_refusal.ensures
    ∙ ap refusal_in c.in-Err.is)
    (ne_eqb _ 0 (numbered _))
    (rw c.from.ensures at c.say.ensures)

pub overflow_mul-result : goal.overflow_mul-result
overflow_mul-result c =
    let words = c.args.words.now in
    let few : c.forget_files-at.result ≤ 1 + 4 * c.args.sizes.files =
    (c.forget_files-at.ensures words (0 ∷ []) (begun_sent words (words-some words c.requires.words_len)) refl).few in
    omega (arith, few, c.requires.permitted.files)

pub overflow_add-result : goal.overflow_add-result
overflow_add-result c =
    let words = c.args.words.now in
    let few : c.forget_files-at.result ≤ 1 + 4 * c.args.sizes.files =
    (c.forget_files-at.ensures words (0 ∷ []) (begun_sent words (words-some words c.requires.words_len)) refl).few in
    omega (arith, few, c.requires.permitted.files)

pub returns : goal.returns
returns c =
    let words = c.args.words.now in
    embargo_moves c.requires.permitted c.args.self.now.flags (omega arith)
    (ap
    (λ (e : Entry).
    first_of (embargo_tests c.args.sizes (recovering_held c.args.self.now.flags) e c.args.client c.args.file))
    (sym c.entry_at-entry.ensures)
    ∙ sym c.embargo_refusal.ensures
    ∙ ap refusal_in c.in_default.is)
    (c.forget_files-at.ensures words (0 ∷ []) (begun_sent words (words-some words c.requires.words_len)) refl) _ refl

-- `open_file` meets its contract. Assumes nothing.
use lib.Dec.{eqb}
use Rattle.std.proofs.Common.{ℕ, ◌+◌, ◌≡◌, refl, sym, ap, ◌∙◌, Bool, false, get_or, arith}
use Rattle.records.specs.declared.record.Mode.{Mode}
use Rattle.sizes.specs.declared.sizes.Sizes.{Sizes}
use Rattle.sizes.proofs.Choosing.{split, conflict}
use Rattle.decision.specs.Lists.{first_of}
use Rattle.protocol.specs.declared.shared.SharedFile.{SharedFile}
use Rattle.protocol.specs.declared.step.Step.TheVariants.{Open}
use Rattle.protocol.specs.Client.{side_of}
use Rattle.protocol.specs.Entry.{calls_for}
use Rattle.protocol.specs.Refusal.{open_tests}
use Rattle.protocol.specs.Reply.{letter_of, no_calls}
use Rattle.blocks.specs.declared.stores.Stores.{Stores}
use Rattle.file.specs.FileStep.{file_step}
use Rattle.words.specs.Said.{calls?}
use Rattle.service.proofs.Serving.{file_moves}
use Rattle.service.proofs.FileStoring.{open_serves}
use Rattle.service.proofs.held_service.HeldService.open_file.Goals as goal

-- an open that does not wait sends no call
open_quiet :
    (z : Sizes) (embargoed recovering : Bool) (x : SharedFile) (a : Stores) (m : Mode) (i f : ℕ)
    → calls? (letter_of (file_step z embargoed recovering x a (Open m i f)).reply) ≡ false
    → (file_step z embargoed recovering x a (Open m i f)).calls ≡ no_calls
unfolding file_step
open_quiet z embargoed recovering x a m i f =
    split (eqb (first_of (open_tests z embargoed recovering x.entry (side_of x.sides i) m i f)) 0)
    (λ done.
    split (eqb (calls_for z.clients x.entry i m) 0)
    (λ none. rw (done, none) (λ e. refl))
    (λ some. rw (done, some) (λ e. conflict refl e)))
    (λ refused. rw refused (λ e. refl))

pub returns-clause-serves : goal.returns-clause-serves
returns-clause-serves c =
    let a = c.args in
    let holds = c.open-response.ensures in
    let stores = a.self.now.stores in
    open_serves c.requires.permitted (omega arith)
    (file_moves false false a.sizes (Open a.mode a.client a.file) a.file a.self.now.table _ a.self.now.flags stores
    _ _ _ refl holds
    (λ e. holds.calls_after ∙ open_quiet a.sizes _ _ _ stores a.mode a.client a.file (rw holds.reply_after at e)))
    c.is_any_dirty-drops.result
    c.counted_if-before.result
    c.counted_if-after.result
    _
    (λ d b h.
    ap (λ (k : ℕ). get_or a.self.now.stores.dirty (k + b) false) (sym c.first_cell.ensures.value) ∙ c.is_any_dirty-drops.ensures d b h)
    c.counted_if-before.ensures.counted
    c.counted_if-after.ensures.counted
    c.recount.ensures

-- `write_file` meets its contract: refused, or done with and without a place that it takes. Assumes nothing.
use Rattle.std.proofs.Common.{ℕ, ◌+◌, ◌%◌, refl, sym, ap, ap₂, ◌∙◌, Bool, false, ◌||◌, List, get_or, set, arith}
use Rattle.sizes.specs.Sizes.{max_files, max_blocks, place}
use Rattle.sizes.proofs.Choosing.{conflict, when, unless}
use Rattle.protocol.specs.declared.step.Step.TheVariants.{Write}
use Rattle.words.specs.Rows.{table_rows}
use Rattle.service.specs.Lent.{state_flags, free_held}
use Rattle.service.specs.Space.{recounted}
use Rattle.service.proofs.Serving.{block_moves}
use Rattle.service.proofs.WriteStoring.{write_refused, write_serves}
use Rattle.service.proofs.held_service.HeldService.write_file.Goals as goal

pub returns-then-is_refused : goal.returns-then-is_refused
returns-then-is_refused c =
    let a = c.args in
    write_refused c.requires.permitted (omega arith) (omega arith)
    c.side_of-own.ensures
    c.takes_place-takes.ensures
    refl
    (block_moves c.takes_place-takes.result _ a.sizes (Write a.client a.file a.block a.value) a.client a.file
    a.self.now.table a.self.now.flags a.self.now.stores
    c.side_of-own.result _ _ refl c.side_of-own.ensures c.write_block-reply.ensures)
    (sym c.is_refused.ensures ∙ c.if-is_refused.true)

-- the flags, whether the write reached the server or not
pub returns-then-takes : goal.returns-then-takes
returns-then-takes c =
    let a = c.args in
    let at : ℕ = place (a.file % max_files) (a.block % max_blocks) in
    let left : List Bool = c.write_block-reply.new.stores.dirty in
    write_serves c.requires.permitted (omega arith) (omega arith)
    c.side_of-own.ensures
    c.takes_place-takes.ensures
    refl
    (block_moves c.takes_place-takes.result _ a.sizes (Write a.client a.file a.block a.value) a.client a.file
    a.self.now.table a.self.now.flags a.self.now.stores
    c.side_of-own.result _ _ refl c.side_of-own.ensures c.write_block-reply.ensures)
    at
    _
    c.mark_unless.new.flags
    (get_or c.mark_unless.new.flags (state_flags + c.place_of.result) false || get_or left c.cell_of.result false)
    refl
    c.mark_unless.ensures
    (λ e.
    ap₂ (λ (k l : ℕ). get_or c.mark_unless.new.flags (state_flags + k) false || get_or left l false)
    c.place_of.ensures.value
    c.cell_of.ensures.value)
    (c.recount.ensures
    ∙ ap (λ (n : ℕ). set a.self.now.table table_rows (recounted a.sizes.store (free_held a.self.now.table) 0 n)) c.one_if.ensures
    ∙ sym (when _ _ c.if-takes.true))
    (sym c.is_refused.ensures ∙ c.if-is_refused.false)

pub returns-else-takes : goal.returns-else-takes
returns-else-takes c =
    let a = c.args in
    let at : ℕ = place (a.file % max_files) (a.block % max_blocks) in
    write_serves c.requires.permitted (omega arith) (omega arith)
    c.side_of-own.ensures
    c.takes_place-takes.ensures
    refl
    (block_moves c.takes_place-takes.result _ a.sizes (Write a.client a.file a.block a.value) a.client a.file
    a.self.now.table a.self.now.flags a.self.now.stores
    c.side_of-own.result _ _ refl c.side_of-own.ensures c.write_block-reply.ensures)
    at
    _
    c.mark_unless.new.flags
    false
    refl
    c.mark_unless.ensures
    (λ e. conflict e c.if-takes.false)
    (sym (unless _ _ c.if-takes.false))
    (sym c.is_refused.ensures ∙ c.if-is_refused.false)

-- `put_copies` meets its contract: its parts, one after the other. Assumes nothing.
use Rattle.std.proofs.Common.{ℕ, Bool, false, ◌+◌, List, get_or, rules, arith}
use Rattle.writer.proofs.Buffers.{wrote_then, wrote_as}
use Rattle.picture.proofs.Parts.{list_there}
use Rattle.picture.proofs.station.put_copies.Goals as goal

pub returns-clause-wrote : goal.returns-clause-wrote
returns-clause-wrote c =
    let a = c.args in
    let base = c.first_cell-base.result in
    let there = list_there a.client a.file _ (omega arith) (omega arith) c.first_cell-base.ensures.value a.sizes.blocks in
    let held = c.put_numbers-word.ensures.wrote (λ (b : ℕ). get_or a.held.now (base + b) false) (search rules) in
    let dirty = c.put_numbers.ensures.wrote (λ (b : ℕ). get_or a.dirty.now (base + b) false) (search rules) in
    wrote_then c.put_text-list.ensures.wrote
    (wrote_then (wrote_as (there a.held.now) held)
    (wrote_then c.put_text-second.ensures.wrote (wrote_as (there a.dirty.now) dirty)))

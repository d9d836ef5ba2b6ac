-- `take_on_all` meets its contract: the free places are recounted after the step. Assumes nothing.
use mathlib.Core.Path.{subst⁻¹}
use Rattle.std.proofs.Common.{◌≤◌, ◌≡◌, ◌∙◌, length, rules}
use Rattle.sizes.specs.Sizes.{max_places}
use Rattle.words.specs.Rows.{table_words}
use Rattle.service.specs.Counted.{known_held}
use Rattle.service.specs.Lent.{recovering_held, used_held}
use Rattle.service.proofs.Counting.{counted_most}
use Rattle.service.proofs.Recounting.{everywhere, recounted-serves}
use Rattle.service.proofs.held_service.HeldService.take_on_all.Goals as goal

-- the table keeps its length
pub recount-requires-clause-table_len : goal.recount-requires-clause-table_len
recount-requires-clause-table_len c =
    let table_long : length c.args.self.now.table ≡ table_words = search rules in
    c.step_all-said.ensures.long ∙ table_long

pub recount-requires-clause-before_le_max_places : goal.recount-requires-clause-before_le_max_places
recount-requires-clause-before_le_max_places c =
    let flags = c.args.self.now.flags in
    subst⁻¹ (λ n. n ≤ max_places) c.counted_in-before.ensures
    (counted_most c.args.sizes (known_held (recovering_held flags) flags) (used_held flags) c.args.self.now.stores.dirty
    c.requires.permitted)

pub returns : goal.returns
returns c =
    let a = c.args in
    let table_long : length a.self.now.table ≡ table_words = search rules in
    recounted-serves c.requires.permitted (everywhere a.step c.requires.on_all) table_long c.step_all-said.ensures _ _ _
    c.counted_in-before.ensures
    c.counted_in-after.ensures c.recount.ensures

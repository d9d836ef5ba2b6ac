-- `put_wasted` meets its contract: after so many files their losses are told. Assumes nothing.
use Prim.Native.Nat.{ℕ}
use mathlib.Core.Path.{◌≡◌, refl, sym, ◌∙◌, ap}
use mathlib.Core.Bool.{Bool}
use mathlib.Core.List.{List, []}
use native.Mathlib.Omega.{arith}
use lib.ListN.{length}
use Rattle.blocks.specs.Stores.{lent, dirty_in}
use Rattle.ledger.specs.Ledger.{entered, copied_at}
use Rattle.writer.proofs.Buffers.{wrote_none, wrote_then, wrote_as}
use Rattle.phrases.specs.Accepted.{losses_below}
use Rattle.phrases.proofs.Losses.{below_none, below_more, none_lost, some_lost}
use Rattle.picture.proofs.aside.put_wasted.Goals as goal

-- what is told of the first files
abbrev losses : List Bool → List ℕ → ℕ → ℕ → ℕ → List ℕ
losses dirty copied i blocks k =
    losses_below (dirty_in (lent [] [] [] dirty) i) (copied_at (entered [] [] copied []) i) blocks k

pub loop-file-init : goal.loop-file-init
loop-file-init c = (wrote_as (sym (below_none _ _ _)) (wrote_none _ _ (omega arith)), omega arith)

pub loop-file-preserved : goal.loop-file-preserved
loop-file-preserved c =
    let put = c.put_wasted_on-next in
    let inv = c.loop-file.invariant in (
      wrote_as (below_more _ _ _ c.loop-file.file) (put.ensures.by_index _ _ inv.0),
      omega arith,
    )

pub returns-then-next-at-clause-wrote : goal.returns-then-next-at-clause-wrote
returns-then-next-at-clause-wrote c =
    let a = c.args in
    let told = losses a.dirty.now a.copied.now a.client a.sizes.blocks in
    let lost = wrote_as (ap told (omega arith)) c.loop-file.invariant.0 in
    let none : length (told a.sizes.files) ≡ 0 = omega (arith, lost.next, c.if-next-at.true) in
    wrote_as (none_lost (told a.sizes.files) none) (wrote_then lost c.put_text.ensures.wrote)

pub returns-clause-wrote : goal.returns-clause-wrote
returns-clause-wrote c =
    let a = c.args in
    let told = losses a.dirty.now a.copied.now a.client a.sizes.blocks in
    let lost = wrote_as (ap told (omega arith)) c.loop-file.invariant.0 in
    wrote_as (some_lost (told a.sizes.files) (λ none. c.if-next-at.false (omega (arith, lost.next, none)))) lost

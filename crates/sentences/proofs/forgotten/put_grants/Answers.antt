-- `put_grants` meets its contract: after so many files their grants are told. Assumes nothing.
use Prim.Native.Nat.{ℕ, ◌+◌}
use mathlib.Core.Path.{◌≡◌, refl, sym, ◌∙◌, ap}
use mathlib.Core.List.{List, ◌++◌}
use native.Mathlib.Numerals.{add-one}
use native.Mathlib.Omega.{arith}
use Rattle.protocol.specs.declared.client.ClientFile.{ClientFile}
use Rattle.protocol.specs.declared.entry.Entry.{Entry}
use Rattle.protocol.specs.Client.{side_of}
use Rattle.words.specs.Rows.{entry_held, sides_held}
use Rattle.ledger.specs.declared.lines.Lines.{Lines}
use Rattle.writer.proofs.Buffers.{wrote_none, wrote_then, wrote_as}
use Rattle.sentences.specs.Scene.{whole_held}
use Rattle.sentences.specs.Explained.{granted_text, grants_text}
use Rattle.sentences.proofs.forgotten.put_grants.Goals as goal

-- the grant on one more file, which the words hold
one_more :
    (n i f : ℕ) (before t : List ℕ) (lines : ℕ → ℕ → Lines) (e e' : Entry) (own : ClientFile)
    → e ≡ entry_held before f
    → e' ≡ entry_held t f
    → own ≡ side_of (sides_held before f) e.waiter
    → grants_text n (whole_held before t lines) i f ++ granted_text n i e e' own f
    ≡ grants_text n (whole_held before t lines) i (f + 1)
unfolding grants_text
one_more n i f before t lines e e' own is is' side =
    let so_far = grants_text n (whole_held before t lines) i f in
    ap (λ (x : ClientFile). so_far ++ granted_text n i e e' x f) side
    ∙ ap (λ (x : Entry). so_far ++ granted_text n i e x (side_of (sides_held before f) e.waiter) f) is'
    ∙ ap (λ (x : Entry). so_far ++ granted_text n i x (entry_held t f) (side_of (sides_held before f) x.waiter) f) is
    ∙ ap (λ (k : ℕ). grants_text n (whole_held before t lines) i k) (sym (add-one f))

pub loop-f-init : goal.loop-f-init
unfolding grants_text
loop-f-init c = (λ lines. wrote_none _ _ (omega arith), omega arith, omega arith, refl)

pub loop-f-preserved : goal.loop-f-preserved
loop-f-preserved c =
    let a = c.args in
    let inv = c.loop-f.invariant in
    let put = c.put_granted-next in (
      λ lines.
          wrote_as
          (one_more a.sizes.clients a.client c.loop-f.f a.before.now a.table.now lines _ _ _
          c.entry_at-entry.ensures
          c.entry_at-after.ensures
          c.side_in-own.ensures)
          (wrote_then (inv.0 lines) put.ensures.wrote),
      omega arith,
      omega arith,
      put.auto.out ∙ inv.3,
    )

pub returns-clause-by_index : goal.returns-clause-by_index
returns-clause-by_index c lines =
    let a = c.args in
    let all : c.loop-f.f ≡ a.sizes.files = omega arith in
    wrote_as (ap (grants_text a.sizes.clients (whole_held a.before.now a.table.now lines) a.client) all)
    (c.loop-f.invariant.0 lines)

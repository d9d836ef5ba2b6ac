-- `fold_section` meets its contract: after k entries the rest gives what the whole was to give. Assumes nothing.
use Prim.Native.Nat.{ℕ, ◌+◌, ◌*◌}
use mathlib.Core.Path.{◌≡◌, subst, ◌∙◌}
use native.Mathlib.Nat.{mul-suc}
use native.Mathlib.Numerals.{add-one}
use native.Mathlib.Omega.{arith}
use Rattle.restore.proofs.Placing.{Placing, placing_next, placing_all, section_at}
use Rattle.restore.proofs.decoding.fold_section.Goals as goal

past : (at w k : ℕ) → at + w * k + w ≡ at + w * (k + 1)
past at w k = rw (add-one k, mul-suc w k) (omega arith)

pub loop-k-preserved : goal.loop-k-preserved
loop-k-preserved g c = record {
  few = c.loop-k.invariant.few;
  placed = λ step puts.
      let a = c.args in
      let turn = c.loop-k in
      subst (λ next. Placing step a.width a.bytes.now (a.at + 2) c.two_at-count.result a.state.now c.put.new.arg4 next (turn.k + 1))
      (past (a.at + 2) a.width turn.k)
      (placing_next (turn.invariant.placed step puts) c.loop-k-test.true (puts _ _ _ _ c.put.ensures));
}

pub returns : goal.returns
returns g c step puts =
    let a = c.args in
    placing_all (c.loop-k.invariant.placed step puts) c.loop-k-test.false
    ∙ section_at step a.width a.bytes.now a.at c.two_at-count.result a.state.now c.two_at-count.ensures.value

-- `put_low` meets its contract: after i bytes the rest completes the number. Assumes nothing.
use Prim.Native.Nat.{suc, ◌+◌, ◌-◌}
use mathlib.Core.Path.{◌≡◌, refl, ap, ◌∙◌}
use native.Mathlib.Omega.{arith}
use Rattle.writer.proofs.Buffers.{wrote_none, wrote_then, wrote_as}
use Rattle.image.specs.Bytes.{low}
use Rattle.image.proofs.numbers.put_low.Goals as goal

pub loop-i-init : goal.loop-i-init
loop-i-init g c =
    let all : g.row.N - 0 ≡ g.row.N = omega arith in
    record { same = refl; offset = omega arith; completes = λ d past w. wrote_as (ap (λ k. low k c.args.n) all) w }

pub loop-i-preserved : goal.loop-i-preserved
unfolding low
loop-i-preserved g c =
    let put = c.put_byte-next in
    let turn = c.loop-i in
    let left : suc (g.row.N - (turn.i + 1)) ≡ g.row.N - turn.i = omega arith in
    record {
      same = put.auto.out ∙ turn.invariant.same;
      offset = omega arith;
      completes = λ d past w.
          turn.invariant.completes d past
          (wrote_as (ap (λ k. low k turn.rest) left) (wrote_then put.ensures.wrote w));
    }

pub returns-clause-wrote : goal.returns-clause-wrote
unfolding low
returns-clause-wrote g c =
    let turn = c.loop-i in
    let none : 0 ≡ g.row.N - turn.i = omega arith in
    turn.invariant.completes _ _
    (wrote_as (ap (λ k. low k turn.rest) none) (wrote_none turn.out turn.next (omega arith)))

-- `put_all` meets its contract: three bytes, the eight sums and LF, one after the other. Assumes nothing.
use Prim.Native.Nat.{ℕ}
use mathlib.Core.Path.{◌≡◌, ap}
use mathlib.Core.List.{List}
use native.Mathlib.Omega.{arith}
use Rattle.stepfile.specs.Text.{argument_text}
use Rattle.writer.proofs.Buffers.{wrote_none, wrote_then, wrote_as}
use Rattle.trace.specs.Number.{total_at, at_most}
use Rattle.counting.specs.Printed.{columns_text, sum_of}
use Rattle.counting.proofs.Printing.{columns_next}
use Rattle.counting.proofs.printed.put_all.Goals as goal

-- the sum of a column
abbrev sum_in : ℕ → List ℕ → ℕ → ℕ
sum_in stations totals k = at_most (sum_of stations (λ i. total_at totals i k))

pub loop-column-init : goal.loop-column-init
unfolding columns_text
loop-column-init c = (wrote_none _ _ (omega arith), omega arith, omega arith)

pub loop-column-preserved : goal.loop-column-preserved
loop-column-preserved c =
    let a = c.args in (
      wrote_as (columns_next c.loop-column.column (sum_in a.stations a.totals.now))
          (wrote_then c.loop-column.invariant.0
          (wrote_as (ap argument_text c.sum_of.ensures) c.put_argument-next.ensures.wrote)),
      omega arith,
      omega arith,
    )

pub returns-clause-wrote : goal.returns-clause-wrote
returns-clause-wrote c =
    let a = c.args in
    let all : c.loop-column.column ≡ 8 = omega arith in
    wrote_then c.put_byte-second.ensures.wrote
    (wrote_then c.put_byte-third.ensures.wrote
    (wrote_then c.put_byte-next.ensures.wrote
    (wrote_then (wrote_as (ap (λ k. columns_text k (sum_in a.stations a.totals.now)) all) c.loop-column.invariant.0)
    c.put_byte.ensures.wrote)))

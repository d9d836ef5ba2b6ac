-- `put_station` meets its contract: the digit, the eight numbers and LF, one after the other. Assumes nothing.
use mathlib.Core.Path.{◌≡◌, ap}
use native.Mathlib.Omega.{arith}
use Rattle.writer.proofs.Buffers.{wrote_none, wrote_then, wrote_as}
use Rattle.trace.specs.Number.{total_at}
use Rattle.counting.specs.Printed.{columns_text}
use Rattle.counting.proofs.Printing.{digit_of, columns_next}
use Rattle.counting.proofs.printed.put_station.Goals as goal

pub loop-column-init : goal.loop-column-init
unfolding columns_text
loop-column-init c = (wrote_none _ _ (omega arith), omega arith, omega arith)

pub loop-column-preserved : goal.loop-column-preserved
loop-column-preserved c =
    let a = c.args in (
      wrote_as (columns_next c.loop-column.column (total_at a.totals.now a.station))
          (wrote_then c.loop-column.invariant.0 c.put_argument-next.ensures.wrote),
      omega arith,
      omega arith,
    )

pub returns-clause-wrote : goal.returns-clause-wrote
returns-clause-wrote c =
    let a = c.args in
    let all : c.loop-column.column ≡ 8 = omega arith in
    wrote_then (wrote_as (digit_of a.station c.requires.station_lt_max_clients) c.put_byte-next.ensures.wrote)
    (wrote_then (wrote_as (ap (λ k. columns_text k (total_at a.totals.now a.station)) all) c.loop-column.invariant.0)
    c.put_byte.ensures.wrote)

-- After k entries the rest gives what the whole was to give.
use Prim.Native.Nat.{ℕ, ◌+◌, ◌*◌, ◌<◌}
use mathlib.Core.Path.{◌≡◌}
use mathlib.Core.List.{List}
use lib.ListN.{take, drop}
use Rattle.restore.proofs.Placing.{Placing}
use Rattle.restore.proofs.decoding.fold_section.Given as goal

abbrev pub invariant-loop-k : goal.invariant-loop-k
invariant-loop-k g l = record {
  few : l.count < 65536;
  placed : (step : List ℕ → _ → _)
      → ((part : _) (next : ℕ) (before after : _) → goal.F-post g l.put part next before tt after → after.now ≡ step (take l.width (drop next part.now)) before.now)
      → Placing step l.width l.bytes (l.at + 2) l.count l.fn.state l.state (l.at + 2 + l.width * l.k) l.k;
}

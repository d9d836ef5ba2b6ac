-- `count_file_used` meets its contract: those that are used are counted. Assumes nothing.
use Prim.Native.Nat.{◌+◌, ◌-◌, ◌*◌}
use mathlib.Core.Path.{◌≡◌, ◌∙◌}
use mathlib.Core.Bool.{Bool, false}
use native.Mathlib.Omega.{arith}
use lib.ListN.{get_or, take, drop}
use Rattle.std.proofs.Common.{rules}
use Rattle.std.specs.List.{count_by}
use Rattle.sizes.specs.Sizes.{place}
use Rattle.decision.proofs.Counting.{count_at_most}
use Rattle.restore.proofs.Counting.{count_part}
use Rattle.restore.proofs.used.count_file_used.Goals as goal

pub returns-clause-value : goal.returns-clause-value
returns-clause-value c =
    let a = c.args in
    let part : c.count.result ≡ count_by (λ (u : Bool). u) (take (a.file * 8 + a.blocks - a.file * 8) (drop (a.file * 8) a.used.now)) = search rules in
    part ∙ count_part (λ u. u) a.used.now false (a.file * 8) a.blocks _ (omega arith) (omega arith)

pub returns-clause-upper_bound : goal.returns-clause-upper_bound
returns-clause-upper_bound c =
    let a = c.args in
    omega (arith, returns-clause-value c, count_at_most a.blocks (λ b. get_or a.used.now (place a.file b) false))

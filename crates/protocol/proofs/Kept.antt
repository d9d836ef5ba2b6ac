-- Every step keeps the invariant of one file and one block, for any number of clients. Assumes nothing.
use Prim.Native.Nat.{ℕ, ◌≤◌}
use Rattle.sizes.specs.Sizes.{nobody}
use Rattle.protocol.proofs.Promises.{Promises}
use Rattle.protocol.proofs.Invariant.{Running, Recovering}
use Rattle.protocol.proofs.Invariant.Fresh.{fresh_kept}
use Rattle.protocol.proofs.Invariant.Block.{read_kept, write_kept, send_kept, own_read_is, own_write_kept}
use Rattle.protocol.proofs.Invariant.Open.{wait-kept, open_kept, open-backs, answer-last-kept, answer-last-backs}
use Rattle.protocol.proofs.Invariant.Close.{close_kept, close_backs}
use Rattle.protocol.proofs.Invariant.Settle.{settle_kept, settle_backs}
use Rattle.protocol.proofs.Invariant.Owing.{running_owes, recovering_owes}
use Rattle.protocol.proofs.Invariant.Answer.{answer_kept, answer_backs}
use Rattle.protocol.proofs.Invariant.Recovery.{crash_kept, crash_again_kept, report_kept, end_kept}
use Rattle.protocol.proofs.Invariant.Clash.{never_clashes_lem}
use Rattle.protocol.proofs.Invariant.Restart.{restart_kept, restart_backs, restart_cut_off_kept}
use Rattle.protocol.proofs.Invariant.Restart.{restart_cut_off_backs}

-- `nobody` is no client: that is all that is asked of n.
pub promises : (n : ℕ) → n ≤ nobody → Promises n (Running n) (Recovering n)
promises n bound =
    record {
      fresh = fresh_kept n bound;
      opens = λ v k i mode h below _ _ left none. open_kept n v k i mode h below left none bound;
      waits_for = λ v k i mode h below _ _ left. wait-kept n v k i mode h below left;
      closes = λ v k i mode dirty h below quiet _ stays. close_kept n v k i mode dirty bound h below quiet stays;
      reads = λ v k i h _. read_kept n v k i h;
      writes = λ v k i x h _. write_kept n v k i x h;
      sends = λ v k i h _. send_kept n v k i h;
      settles = λ v k i left h. settle_kept n v k i left bound h;
      answers = λ v k i h below called _. answer_kept n v k i bound h below called;
      answers_last = λ v k i h. answer-last-kept n v k i bound h;
      closes_back = close_backs;
      settles_back = settle_backs;
      opens_back = λ v k i mode h below left none. open-backs n v k i mode h below left none;
      answers_back = λ v k i h _. answer_backs n v k i h;
      answers_last_back = λ v k i h. answer-last-backs n v k i bound h;
      owes = λ v k i. running_owes n v k i;
      restarts = λ v k i. restart_kept n v k i bound;
      restarts_back = λ v k i. restart_backs n v k i bound;
      crashes = λ v k heard. crash_kept n v k heard bound;
      crashes_again = λ v k reported heard row. crash_again_kept n v k reported heard row bound;
      reads_own = λ v k i reported row h _. own_read_is n v k i reported row h;
      writes_own = λ v k i x reported row h _. own_write_kept n v k i x reported row h;
      reports = λ v k i reported row h below _. report_kept n v k i reported row h below;
      never_clashes = never_clashes_lem n;
      restarts_cut_off = λ v k i reported row. restart_cut_off_kept n v k i reported row bound;
      restarts_cut_off_back = λ v k i reported row. restart_cut_off_backs n v k i reported row bound;
      owes_still = λ v k i reported row. recovering_owes n v k i reported row;
      ends = end_kept n;
    }

-- `judge_all` is safe and ends: each string leaves less of the input.
use Rattle.std.proofs.Common.{length}
use Rattle.image_judge.proofs.judge_all.Given as goal

abbrev pub decreases-loop-rest : goal.decreases-loop-rest
decreases-loop-rest g l = length l.rest

-- `tell` is safe and ends: the buffers keep their lengths, and the rest stays within its buffer.
use Rattle.std.proofs.Common.{◌≡◌, ◌≤◌, length}
use Rattle.console.proofs.input_loop.tell.Given as goal

abbrev pub invariant-loop : goal.invariant-loop
invariant-loop g l =
    (length l.buffer ≡ 262144) × (length l.out ≡ length l.initial.out) × (l.session.rest ≤ 262144)

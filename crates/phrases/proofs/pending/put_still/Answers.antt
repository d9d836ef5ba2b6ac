-- `put_still` meets its contract: the text, then the list. Assumes nothing.
use Rattle.std.proofs.Common.{ℕ, not, rules}
use Rattle.decision.specs.Callback.{asks_nothing}
use Rattle.protocol.specs.Entry.{call_to}
use Rattle.writer.proofs.Buffers.{wrote_then}
use Rattle.phrases.proofs.pending.put_still.Goals as goal

pub returns-clause-wrote : goal.returns-clause-wrote
returns-clause-wrote c =
    wrote_then c.put_text-list.ensures.wrote
    (c.put_numbers.ensures.wrote (λ (k : ℕ). not (asks_nothing (call_to c.args.clients c.args.entry k))) (search rules))

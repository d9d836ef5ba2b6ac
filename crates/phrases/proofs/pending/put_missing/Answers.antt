-- `put_missing` meets its contract: the text, then the list. Assumes nothing.
use Rattle.std.proofs.Common.{ℕ, not, rules}
use Rattle.table.specs.TableStep.{is_heard}
use Rattle.writer.proofs.Buffers.{wrote_then}
use Rattle.phrases.proofs.pending.put_missing.Goals as goal

pub returns-clause-wrote : goal.returns-clause-wrote
returns-clause-wrote c =
    wrote_then c.put_text-list.ensures.wrote
    (c.put_numbers.ensures.wrote (λ (k : ℕ). not (is_heard c.args.reported c.args.embargoed k)) (search rules))

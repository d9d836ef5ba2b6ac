-- `opener_at` meets its contract. Assumes nothing.
use Rattle.trace.proofs.Told.{said_from, none_from}
use Rattle.trace.proofs.tracing.opener_at.Goals as goal

pub returns-then-at-count : goal.returns-then-at-count
returns-then-at-count c =
    said_from c.args.from c.args.count c.args.words.now c.args.k c.requires.k_lt_max_files c.if-at-count.true

pub returns : goal.returns
returns c =
    none_from c.args.from c.args.count c.args.words.now c.args.k c.requires.k_lt_max_files c.if-at-count.false

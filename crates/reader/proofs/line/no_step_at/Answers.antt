-- `no_step_at` meets its contract: the line ends at the first LF from the offset on. Assumes nothing.
use mathlib.Core.Path.{sym, ◌∙◌, ap}
use native.Mathlib.Omega.{arith}
use Rattle.reader.proofs.LineFeeds.{ended, search_none, ended_by}
use Rattle.reader.proofs.line.no_step_at.Goals as goal

pub returns-in_err-get : goal.returns-in_err-get
returns-in_err-get c = c.from_residual.ensures ∙ search_none c.args.input.now c.args.at (omega (arith, c.in_err-get.ensures.lookup.0))

pub returns-in_err-length : goal.returns-in_err-length
returns-in_err-length c =
    let rest = c.in_ok-get.ensures.lookup.0 in
    c.from_residual-in_err-length.ensures
    ∙ ap (ended c.args.at) (sym c.in_err-length.was ∙ c.line_feed_in.ensures)
    ∙ ended_by c.args.input.now c.args.at _ rest.2 rest.0

pub returns : goal.returns
returns c =
    let rest = c.in_ok-get.ensures.lookup.0 in
    ap (ended c.args.at) (sym c.in_ok-length.was ∙ c.line_feed_in.ensures) ∙ ended_by c.args.input.now c.args.at _ rest.2 rest.0

-- `play_lines` meets its contract: what the setting and each step comes to is in the arrays and the words, and
-- `line_played` carries it from line to line. Assumes nothing.
use mathlib.Core.Path.{sym, ◌∙◌}
use lib.ListN.{length}
use Rattle.service.specs.Lent.{service_held, outcome_of}
use Rattle.writer.specs.Buffer.{line_room}
use Rattle.telling.proofs.Reaching.{line_bytes}
use Rattle.telling.proofs.LineByLine.{read_line, from_1, fewer, stops-full, stops-whole}
use Rattle.playing.specs.Lines.{playing}
use Rattle.playing.proofs.FirstLines.{none_later, not_chosen}
use Rattle.playing.proofs.Playing.{given_outcome, line_played}
use Rattle.playing.proofs.lines.play_lines.Goals as goal

pub loop-words-smaller : goal.loop-words-smaller
loop-words-smaller c =
    let l = c.loop-words in
    let reached = l.invariant.0 _ _ _ c.play_first-begun.ensures.reached in
    fewer c.args.input.now l.used _ _
    (read_line c.args.input.now l.used c.in-Some.line.step c.in-Some.line.next reached.at.inside (sym c.read_at.ensures ∙ c.in-Some.is))

pub loop-words-preserved : goal.loop-words-preserved
loop-words-preserved c =
    let a = c.args in
    let l = c.loop-words in
    let given = c.play_first-begun.result.sizes in
    let stands = service_held given l.service.table l.service.flags l.service.stores in
    let line = c.in-Some.line in
    let reached = l.invariant.0 _ _ _ c.play_first-begun.ensures.reached in
    let is_read = sym c.read_at.ensures ∙ c.in-Some.is in
    let can = sym c.can_tell.ensures ∙ c.loop-words-test.true in
    let plain =
    not_chosen a.settable l.number a.input.now l.used line.step line.next _
    (read_line a.input.now l.used line.step line.next reached.at.inside is_read) l.invariant.1.0 can in
    let steps = c.take_line-said.ensures in
    let wrote = c.write_said-to in
    let is =
    given_outcome a.settable stands l.number (line_bytes a.input.now l.used line.next) line.step plain in (
      λ s n out w.
          line_played a.settable s n a.input.now out stands l.number l.used l.to l.out line.step line.next
          (outcome_of stands line.step)
          _ wrote.result _ (l.invariant.0 s n out w) is_read can is
          steps.service
          (wrote.ensures.wrote_if_room _ _ _ steps.says.says)
          wrote.ensures.upper_bound,
      (
        none_later a.settable l.number _ _ (from_1 line_room (length l.out) l.to l.number can),
        steps.words_long ∙ l.invariant.1.1,
      ),
    )

pub returns-after-loop-words : goal.returns-after-loop-words
returns-after-loop-words c =
    let a = c.args in
    let l = c.loop-words in
    record {
      tells =
          stops-full (playing a.settable) _ a.first a.input.now a.out.now _ l.number l.used l.to l.out
          (l.invariant.0 _ _ _ c.play_first-begun.ensures.reached) (sym c.can_tell.ensures ∙ c.loop-words-test.false);
    }

pub returns-in_default : goal.returns-in_default
returns-in_default c =
    let a = c.args in
    let l = c.loop-words in
    record {
      tells =
          stops-whole (playing a.settable) _ a.first a.input.now a.out.now _ l.number l.used l.to l.out
          (l.invariant.0 _ _ _ c.play_first-begun.ensures.reached) (sym c.in_default.ensures);
    }

-- `grant_if_last` meets its contract: others have still to answer, or the open that waits is granted. Assumes nothing.
use Prim.Native.Nat.{◌%◌, ◌<◌}
use mathlib.Core.Path.{refl}
use native.Mathlib.Omega.{arith}
use Rattle.sizes.specs.Sizes.{max_clients, max_files}
use Rattle.protocol.specs.declared.reply.Reply.TheVariants.{AnsweredGrant}
use Rattle.words.specs.Rows.{file_held}
use Rattle.file.proofs.LastAnswer.{more-out, last-grants}
use Rattle.file.proofs.Leaving.{leaves_as, leaves_held}
use Rattle.file.proofs.Wrapping.{wrapped_side}
use Rattle.file.proofs.answering.grant_if_last.Goals as goal

pub returns-then-calls_out-ne0 : goal.returns-then-calls_out-ne0
returns-then-calls_out-ne0 c =
    let a = c.args in
    leaves_as
    (more-out a.sizes a.file a.sent (file_held a.table.now (a.file % max_files)) a.stores.now
    a.answered c.calls_out.result c.requires.max_files_value c.calls_out.ensures c.if-calls_out-ne0.true)
    (record {
      puts = record { long = refl; here = refl; beside = λ g j off lt. refl };
      reply_after = refl;
      stores_after = refl;
    })

pub grant_open-requires-clause-opener_value : goal.grant_open-requires-clause-opener_value
grant_open-requires-clause-opener_value c =
    let a = c.args in
    let below : a.answered.waiter < max_clients = omega (arith, c.requires.waiter_lt_clients, c.requires.permitted.clients) in
    wrapped_side a.table.now (a.file % max_files) a.answered.waiter c.side_of-side.result below c.side_of-side.ensures

pub returns : goal.returns
returns c =
    let a = c.args in
    let grant = c.grant-grant in
    let reply = AnsweredGrant a.sent a.answered.waiter grant.result in
    leaves_as
    (last-grants a.sizes a.file a.sent (file_held a.table.now (a.file % max_files)) a.stores.now
    a.answered c.calls_out.result c.requires.max_files_value c.calls_out.ensures grant.result c.if-calls_out-ne0.false grant.ensures)
    (leaves_held (c.grant_open.ensures reply refl))

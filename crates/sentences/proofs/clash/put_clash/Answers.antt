-- `put_clash` meets its contract, by whether there is such a client, and a file on which its report clashes. Assumes
-- nothing.
use native.Mathlib.Omega.{arith}
use Rattle.writer.proofs.Buffers.{wrote_as, wrote_none}
use Rattle.sentences.proofs.Clashes.{no_client_lem, no_file_lem, clashes-there, on-file}
use Rattle.sentences.proofs.clash.put_clash.Goals as goal

pub returns-then-client-ge-MAX_CLIENTS-clause-wrote : goal.returns-then-client-ge-MAX_CLIENTS-clause-wrote
returns-then-client-ge-MAX_CLIENTS-clause-wrote c =
    let a = c.args in
    wrote_as
    (no_client_lem a.sizes c.requires.permitted a.table.now a.flags.now a.client c.if-client-ge-MAX_CLIENTS.true)
    (wrote_none _ _ (omega arith))

pub returns-in_default-clause-wrote : goal.returns-in_default-clause-wrote
returns-in_default-clause-wrote c =
    let a = c.args in
    wrote_as
    (no_file_lem a.sizes c.requires.permitted a.table.now a.flags.now a.client c.if-client-ge-MAX_CLIENTS.false
    c.clash_file.ensures c.in_default.is)
    (wrote_none _ _ (omega arith))

pub put_clash_on-requires-clause-client_value : goal.put_clash_on-requires-clause-client_value
put_clash_on-requires-clause-client_value c =
    let a = c.args in
    clashes-there a.sizes c.requires.permitted a.table.now a.flags.now a.client c.if-client-ge-MAX_CLIENTS.false
    c.clash_file.ensures c.in-Some.is

pub returns-clause-wrote : goal.returns-clause-wrote
returns-clause-wrote c =
    let a = c.args in
    wrote_as
    (on-file a.sizes c.requires.permitted a.table.now a.flags.now a.client c.if-client-ge-MAX_CLIENTS.false
    c.clash_file.ensures c.in-Some.is)
    c.put_clash_on.ensures.wrote

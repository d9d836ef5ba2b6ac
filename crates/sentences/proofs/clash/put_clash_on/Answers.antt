-- `put_clash_on` meets its contract, by whether the client's side clashes alone. Assumes nothing.
use Prim.Native.Nat.{ℕ}
use mathlib.Core.Path.{◌≡◌, sym, ap, ◌∙◌}
use mathlib.Core.Bool.{Bool, false}
use lib.ListN.{get_or}
use Rattle.sizes.proofs.Choosing.{unless}
use Rattle.protocol.specs.declared.client.ClientFile.{ClientFile}
use Rattle.protocol.specs.declared.entry.Entry.{Entry}
use Rattle.protocol.specs.Clash.{clash, accepted_of, clashes_with}
use Rattle.protocol.specs.Client.{no_client}
use Rattle.words.specs.Rows.{entry_held}
use Rattle.phrases.specs.Clash.{untrue_text, not_both_text}
use Rattle.writer.proofs.Buffers.{wrote_as}
use Rattle.sentences.specs.Explained.{clash_on_text}
use Rattle.sentences.proofs.Clashes.{not_alone, other_there, other_is}
use Rattle.sentences.proofs.clash.put_clash_on.Goals as goal

-- its side, which was read, clashes with another, of whom this was accepted
both_text :
    (n : ℕ) (p : ℕ → Bool) (e : Entry) (i f : ℕ) {own own' accepted : ClientFile} {j : ℕ}
    → own' ≡ own
    → clash own no_client ≡ false
    → j ≡ clashes_with n p e own'
    → accepted ≡ accepted_of e j
    → not_both_text f i own' j accepted ≡ clash_on_text n p e own i f
both_text n p e i f {own = own} {own' = own'} is not with same =
    ap (not_both_text f i own' _) same
    ∙ ap (λ j. not_both_text f i own' j (accepted_of e j)) with
    ∙ ap (λ d. not_both_text f i d (clashes_with n p e d) (accepted_of e (clashes_with n p e d))) is
    ∙ sym (unless (untrue_text f i own) _ not)

pub unreachable-requires : goal.unreachable-requires
unreachable-requires c =
    let a = c.args in
    other_there a.clients (λ j. get_or a.flags.now j false) (entry_held a.table.now a.file) c.side_in-own.ensures c.none.ensures
    c.clashes.ensures c.if-clashes.false c.clashes_with.ensures c.requires.client_value c.in_default.is

pub returns-clause-wrote : goal.returns-clause-wrote
returns-clause-wrote c =
    let a = c.args in
    let p : ℕ → Bool = λ j. get_or a.flags.now j false in
    let e = entry_held a.table.now a.file in
    let is = c.side_in-own.ensures in
    let alone = c.clashes.ensures in
    let with = c.clashes_with.ensures in
    wrote_as
    (both_text a.clients p e a.client a.file is
    (not_alone a.clients p e is c.none.ensures alone c.if-clashes.false with)
    (other_is a.clients p e is c.none.ensures alone c.if-clashes.false with c.in-Some.is)
    c.accepted_in-accepted.ensures)
    c.put_not_both.ensures.wrote

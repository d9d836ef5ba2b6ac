-- `waiting` meets its contract: the callbacks that are due stand in the entry. Assumes nothing.
use Rattle.std.proofs.Common.{ℕ, List, ap, ◌∙◌, get_or, replicate}
use lib.ListN.{length-replicate}
use Rattle.records.specs.declared.record.Mode.{Mode}
use Rattle.decision.specs.State.{record_in}
use Rattle.decision.specs.Callback.{callback_due}
use Rattle.decision.proofs.Storing.{stored_agree}
use Rattle.decision.proofs.CallOrder.{kind_due}
use Rattle.protocol.specs.declared.entry.Entry.{Entry}
use Rattle.protocol.proofs.entry.Entry.waiting.Goals as goal

abbrev entry-with : Entry → ℕ → Mode → List ℕ → Entry
entry-with e opener mode calls =
    record {
      records = e.records;
      version = e.version;
      last = e.last;
      waiter = opener;
      mode = mode;
      calls = calls;
    }

pub returns : goal.returns
returns c =
    let a = c.args in
    let due = callback_due a.clients (record_in a.self.records) a.self.last a.opener a.mode in
    ap (λ (l : List ℕ). entry-with a.self a.opener a.mode l)
    (c.with_calls-out.ensures
    ∙ stored_agree a.clients (λ i. i) (λ i. get_or a.calls i 0) due a.self.calls
    (λ i h.
    ap (λ (l : List ℕ). get_or l i 0) c.requires.calls_value
    ∙ kind_due a.clients (record_in a.self.records) a.self.last a.opener a.mode (replicate 8 0)
    (rw length-replicate c.requires.clients_le_max_clients) i h))

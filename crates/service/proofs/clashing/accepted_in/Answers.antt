-- `accepted_in` meets its contract. Assumes nothing.
use Prim.Native.Nat.{◌+◌}
use Rattle.records.specs.Record.{not_open}
use Rattle.sizes.specs.Sizes.{max_clients}
use Rattle.words.specs.Words.{record_held}
use Rattle.words.specs.Rows.{word_at}
use Rattle.words.proofs.Listing.{get_d_listed}
use Rattle.service.proofs.clashing.accepted_in.Goals as goal

pub returns : goal.returns
returns c =
    let a = c.args in
    rw (
      c.record_of.ensures,
      c.last_of-last.ensures,
      c.none.ensures,
      get_d_listed max_clients (λ j. record_held (word_at a.table.now a.f (2 + j))) not_open a.client
          c.requires.client_lt_max_clients,
    )

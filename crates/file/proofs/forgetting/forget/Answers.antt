-- `forget` meets its contract: the client is forgotten, and a callback to it counts as answered. Assumes nothing.
use Prim.Native.Nat.{ℕ, ◌%◌, ◌<◌}
use mathlib.Core.Path.{◌≡◌, refl, sym, ap, ◌∙◌, subst}
use mathlib.Core.Bool.{false}
use mathlib.Core.List.{List}
use native.Mathlib.Nat.{mod-eq_of_lt}
use native.Mathlib.Omega.{arith}
use Rattle.sizes.specs.declared.sizes.Sizes.{Sizes}
use Rattle.sizes.specs.Sizes.{Permitted, max_clients, max_files}
use Rattle.decision.specs.Callback.{asks_nothing}
use Rattle.protocol.specs.declared.entry.Entry.{Entry}
use Rattle.protocol.specs.declared.shared.SharedFile.{SharedFile}
use Rattle.protocol.specs.Entry.{call_to, forgotten_entry, answered_entry}
use Rattle.words.specs.Rows.{entry_held, file_held, Puts}
use Rattle.file.specs.FileStep.{with_entry}
use Rattle.file.proofs.AnsweredRow.{answered_others}
use Rattle.file.proofs.ForgetStep.{forget-done, forget-answers}
use Rattle.file.proofs.LastAnswer.{GrantsBelow, someone_waits, grants_below_lem}
use Rattle.file.proofs.Leaving.{entry_stored, leaves_as, stored_before}
use Rattle.file.proofs.Taking.{puts_as}
use Rattle.file.proofs.forgetting.forget.Goals as goal

-- the client's number is not wrapped
here : (z : Sizes) (i : ℕ) → Permitted z → i < z.clients → i % max_clients ≡ i
here z i p there = mod-eq_of_lt (omega (arith, there, p.clients))

-- what is known of the entry e without the client, as it was stored in the table t₁ and loaded again
module _
    (z : Sizes)
    (t t₁ : List ℕ)
    (i f : ℕ)
    (e : Entry)
    (first : Puts (f % max_files) (with_entry (file_held t (f % max_files)) (forgotten_entry z.clients (entry_held t (f % max_files)) (i % max_clients))) t t₁)
    (loaded : e ≡ entry_held t₁ (f % max_files)) where
  loaded-as : e ≡ forgotten_entry z.clients (entry_held t (f % max_files)) (i % max_clients)
  loaded-as = loaded ∙ ap (λ (x : SharedFile). x.entry) first.here

  left_is : i % max_clients ≡ i → e ≡ forgotten_entry z.clients (entry_held t (f % max_files)) i
  left_is at = loaded-as ∙ ap (forgotten_entry z.clients (entry_held t (f % max_files))) at

-- the open that waits is there to be granted
waiter-below :
    (n i kind : ℕ) (e after : Entry)
    → kind ≡ call_to n e i
    → asks_nothing kind ≡ false
    → after ≡ answered_entry e i kind
    → after.waiter < n
waiter-below n i kind e after kind-of called answered =
    let same : after.waiter ≡ e.waiter = ap (λ (e : Entry). e.waiter) answered in
    omega (arith, same, someone_waits n e i (ap asks_nothing (sym kind-of) ∙ called))

pub returns-then-asks_nothing-clause-by_index : goal.returns-then-asks_nothing-clause-by_index
returns-then-asks_nothing-clause-by_index c =
    let a = c.args in
    let file = file_held a.table.now (a.file % max_files) in
    let first = c.put_forgotten.ensures in
    let loaded = c.entry_at-entry.ensures in
    leaves_as
    (forget-done a.sizes a.file file a.stores.now a.client c.entry_at-entry.result c.call_to-kind.result
    (left_is a.sizes a.table.now _ a.client a.file _ first loaded (here a.sizes a.client c.requires.permitted c.requires.client_lt_clients))
    c.call_to-kind.ensures
    (sym c.asks_nothing.ensures ∙ c.if-asks_nothing.true))
    (record {
      puts = puts_as (ap (with_entry file) (sym (loaded-as a.sizes a.table.now _ a.client a.file _ first loaded))) first;
      reply_after = refl;
      stores_after = refl;
    })

pub put_known-requires-clause-by_index : goal.put_known-requires-clause-by_index
put_known-requires-clause-by_index c =
    let a = c.args in
    answered_others c.put_forgotten.new.table (a.file % max_files) a.client (a.client % max_clients) c.call_to-kind.result
    c.entry_at-entry.result c.answered-answered.result
    c.entry_at-entry.ensures
    c.answered-answered.ensures
    (here a.sizes a.client c.requires.permitted c.requires.client_lt_clients)

pub returns-clause-by_index : goal.returns-clause-by_index
returns-clause-by_index c =
    let a = c.args in
    let file = file_held a.table.now (a.file % max_files) in
    let stores = a.stores.now in
    let first = c.put_forgotten.ensures in
    let loaded = c.entry_at-entry.ensures in
    let answered = c.answered-answered in
    leaves_as
    (forget-answers a.sizes a.file file stores a.client c.entry_at-entry.result c.call_to-kind.result
    (left_is a.sizes a.table.now _ a.client a.file _ first loaded (here a.sizes a.client c.requires.permitted c.requires.client_lt_clients))
    c.call_to-kind.ensures answered.result
    (sym c.asks_nothing.ensures ∙ c.if-asks_nothing.false)
    answered.ensures)
    (stored_before a.sizes a.file 0 (with_entry file answered.result) stores
    (entry_stored first c.put_known.ensures)
    c.grant_if_last.ensures)

pub returns-clause-by_index_2 : goal.returns-clause-by_index_2
returns-clause-by_index_2 c sent j g told =
    let a = c.args in
    let file = file_held a.table.now (a.file % max_files) in
    let stores = a.stores.now in
    let first = c.put_forgotten.ensures in
    let loaded = c.entry_at-entry.ensures in
    let answered = c.answered-answered in
    let x = with_entry file answered.result in
    let leaves = stored_before a.sizes a.file 0 x stores
    (entry_stored first c.put_known.ensures)
    c.grant_if_last.ensures in
    subst (GrantsBelow a.sizes.clients) (sym leaves.reply_after ∙ told)
    (grants_below_lem a.sizes a.file 0 x stores
    (waiter-below a.sizes.clients a.client c.call_to-kind.result c.entry_at-entry.result answered.result c.call_to-kind.ensures
    (sym c.asks_nothing.ensures ∙ c.if-asks_nothing.false) answered.ensures))

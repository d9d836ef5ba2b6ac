-- One client's record changes, as in a close, an answer or a grant: what has to be shown of it alone and with each
-- other client, and what the table then has. It leads to every step that changes a record. Assumes nothing.
use Prim.Native.Nat.{ℕ, ◌<◌}
use mathlib.Core.Path.{◌≡◌, refl, sym, ◌∙◌, ap, subst}
use mathlib.Core.Bool.{Bool, true, false, cond, not}
use mathlib.Core.List.{List}
use native.Mathlib.Omega.{arith}
use lib.Dec.{eqb, ltb}
use lib.ListN.{length, set}
use borrow.Author.Tests.{ne_eqb, ltb-true, ltb-false}
use Rattle.records.specs.declared.record.ClientRecord.{ClientRecord}
use Rattle.decision.specs.declared.state.Property.{Property}
use Rattle.decision.specs.declared.state.Property.TheVariants.{Open, Uncached, Writing}
use Rattle.records.specs.declared.version.Version.{Version}
use Rattle.protocol.specs.declared.client.ClientFile.{ClientFile}
use Rattle.records.specs.Version.{number_of}
use Rattle.records.specs.Record.{not_open, is_open}
use Rattle.decision.specs.State.{record_in, has}
use Rattle.protocol.specs.Client.{no_client}
use Rattle.protocol.proofs.View.{at}
use Rattle.protocol.proofs.Invariant.{has_open, Own, Apart, Clients, Agrees}
use Rattle.protocol.proofs.Invariant.Lists.{get_d_at}
use Rattle.protocol.proofs.Invariant.Flags.{conflict, split, and_left, or_right, change, at_other}

-- who has writers is open
pub writers_open : (r : ClientRecord) → ltb 0 r.writers ≡ true → is_open r ≡ true
writers_open r w = or_right (ltb 0 r.readers) w

-- and so is who is counted for anything
pub counted_open : (property : Property) (r : ClientRecord) → has property r ≡ true → is_open r ≡ true
counted_open Open r o = o
counted_open Uncached r u = and_left (is_open r) (not r.caching) u
counted_open Writing r w = writers_open r w

module _ {n : ℕ} {version : Version} {client : ℕ → ClientFile} (h : Clients n version client) where
  -- who is open or marked is a client
  is_client : (flag : ClientFile → Bool) → flag no_client ≡ false → (s : ℕ) → flag (client s) ≡ true → s < n
  is_client flag unset s e =
      split (ltb s n) (ltb-true s n)
      (λ out. absurd (conflict e (ap flag (h.beyond s (ltb-false s n out)) ∙ unset)))

  pub open_is_client : (s : ℕ) → has_open (client s) ≡ true → s < n
  open_is_client = is_client has_open refl

  pub marked_is_client : (s : ℕ) → (client s).marked ≡ true → s < n
  marked_is_client = is_client (λ c. c.marked) refl

  -- Client i becomes c, and the version may change with it.
  pub clients_at :
      (later : Version) (i : ℕ) (c : ClientFile)
      → i < n
      → eqb (number_of later) 0 ≡ false
      → Own later c
      → ((t : ℕ) → eqb t i ≡ false → Own later (client t))
      → ((t : ℕ) → eqb t i ≡ false → Apart later c (client t))
      → ((t : ℕ) → eqb t i ≡ false → Apart later (client t) c)
      → ((s t : ℕ) → eqb t s ≡ false → Apart later (client s) (client t))
      → Clients n later (at i c client)
  clients_at later i c below version_not_zero own others to from far =
      record {
        version_not_zero = version_not_zero;
        beyond = λ s out. at_other i s c client (ne_eqb s i (λ q. omega arith)) ∙ h.beyond s out;
        own = change (λ s b. Own later (cond b c (client s))) i own others;
        apart =
            change (λ s b. (t : ℕ) → eqb t s ≡ false → Apart later (cond b c (client s)) (at i c client t)) i
            (λ t e. subst (λ b. Apart later c (cond b c (client t))) (sym e) (to t e))
            (λ s away. change (λ t b. eqb t s ≡ false → Apart later (client s) (cond b c (client t))) i
            (λ _. from s away) (λ t _ e. far s t e));
      }

-- the records of a table after that of client i was set to what the client has become
module _
    {n : ℕ}
    {records : List ClientRecord}
    {last : ℕ}
    {client : ℕ → ClientFile}
    {heard : ℕ → Bool}
    (h : Agrees n records last client heard)
  where
    pub known_at :
        (i : ℕ) (a : ClientRecord) (c : ClientFile)
        → i < n
        → a ≡ c.opens
        → (s : ℕ)
        → heard s ≡ true
        → record_in (set records i a) s ≡ (at i c client s).opens
    known_at i a c below e s t =
        let fits : i < length records = subst (λ m. i < m) (sym h.size) below in
        get_d_at records i a not_open fits s
        ∙ change (λ j b. heard j ≡ true → cond b a (record_in records j) ≡ (cond b c (client j)).opens) i
        (λ _. e) (λ j _. h.known j) s t

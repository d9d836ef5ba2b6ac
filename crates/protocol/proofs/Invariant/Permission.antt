-- The permission that a grant gives: what the clients' clauses need of it. It leads to the grant. Assumes nothing.
use Prim.Native.Nat.{ℕ}
use mathlib.Core.Path.{◌≡◌, refl, sym, ◌∙◌, ap}
use mathlib.Core.Bool.{Bool, true, false, not, ◌&&◌, ◌||◌}
use mathlib.Core.Logic.{inl}
use native.Mathlib.Nat.{le_of_eq}
use lib.Dec.{eqb, ltb}
use borrow.Author.Tests.{not-true, lt-ltb, le-ltb}
use Rattle.records.specs.declared.record.Mode.{Mode}
use Rattle.records.specs.declared.record.Mode.TheVariants.{Read, Write}
use Rattle.records.specs.declared.record.ClientRecord.{ClientRecord}
use Rattle.decision.specs.declared.state.Property.{Property}
use Rattle.decision.specs.declared.state.Property.TheVariants.{Open, Uncached, Writing}
use Rattle.records.specs.declared.version.Version.{Version}
use Rattle.protocol.specs.declared.client.ClientFile.{ClientFile}
use Rattle.records.specs.Record.{is_open, is_write, keeps_permission}
use Rattle.decision.specs.State.{has, tally, others}
use Rattle.decision.specs.Permission.{permission_at_grant}
use Rattle.protocol.proofs.Invariant.{may_cache, has_open, has_writers, Clients}
use Rattle.protocol.proofs.Invariant.Flags.{conflict, split, and_left, and_right, and_both, other_sym, change}
use Rattle.protocol.proofs.Invariant.Count.{none, some}
use Rattle.protocol.proofs.Invariant.Change.{writers_open, counted_open, open_is_client}

-- What the opener's clauses need of the permission p.
pub record Permitted (client : ℕ → ClientFile) (opener : ℕ) (mode : Mode) (p : Bool) : Type 0 where
  -- Who gets or keeps it finds no other client with writers ..
  pub unwritten : p ≡ true → (t : ℕ) → eqb t opener ≡ false → has_writers (client t) ≡ true → ⊥
  -- .. and, where it will have writers itself, no other client open.
  pub alone :
      p ≡ true
      → (is_write mode || has_writers (client opener)) ≡ true
      → (t : ℕ)
      → eqb t opener ≡ false
      → has_open (client t) ≡ true
      → ⊥
  -- A marked opener gets or keeps it ..
  pub marked : (client opener).marked ≡ true → p ≡ true
  -- .. and one that has writers and may cache keeps it.
  pub writing : may_cache (client opener) ≡ true → has_writers (client opener) ≡ true → p ≡ true

-- who keeps its permission and will have writers has them, and is open in any case
keeper_writes :
    (mode : Mode) (r : ClientRecord)
    → keeps_permission mode r ≡ true
    → (is_write mode || ltb 0 r.writers) ≡ true
    → ltb 0 r.writers ≡ true
keeper_writes Read r e w = w
keeper_writes Write r e w = e

pub keeper_open : (mode : Mode) (r : ClientRecord) → keeps_permission mode r ≡ true → is_open r ≡ true
keeper_open Read r e = e
keeper_open Write r e = writers_open r e

-- who has writers keeps its permission; who asks for it and will have writers opens for write
writer_keeps : (mode : Mode) (r : ClientRecord) → ltb 0 r.writers ≡ true → keeps_permission mode r ≡ true
writer_keeps Read r w = writers_open r w
writer_keeps Write r w = w

asker_writes :
    (mode : Mode) (r : ClientRecord)
    → keeps_permission mode r ≡ false
    → (is_write mode || ltb 0 r.writers) ≡ true
    → is_write mode ≡ true
asker_writes Read r e w = absurd (conflict (writers_open r w) e)
asker_writes Write r e w = refl

-- What is kept, denied and given.
module _ (n : ℕ) (r : ℕ → ClientRecord) (i : ℕ) where
  is_kept : (mode : Mode) → keeps_permission mode (r i) ≡ true → permission_at_grant n r i mode ≡ (r i).caching
  unfolding permission_at_grant
  is_kept mode keeps = cc

  is_denied_beside_writers :
      (mode : Mode)
      → keeps_permission mode (r i) ≡ false
      → ltb 0 (others n r Writing i) ≡ true
      → permission_at_grant n r i mode ≡ false
  unfolding permission_at_grant
  is_denied_beside_writers mode asks w = cc

  is_denied_to_writers :
      (mode : Mode)
      → keeps_permission mode (r i) ≡ false
      → is_write mode ≡ true
      → ltb 0 (others n r Open i) ≡ true
      → permission_at_grant n r i mode ≡ false
  unfolding permission_at_grant
  is_denied_to_writers mode asks w o = split (ltb 0 (others n r Writing i)) (λ written. cc) (λ unwritten. cc)

  is_given_lem :
      (mode : Mode)
      → keeps_permission mode (r i) ≡ false
      → ltb 0 (others n r Writing i) ≡ false
      → ltb 0 (others n r Open i) ≡ false
      → ltb 0 (tally n r Uncached) ≡ false
      → permission_at_grant n r i mode ≡ true
  unfolding permission_at_grant
  is_given_lem Read asks w o u = cc
  is_given_lem Write asks w o u = cc

module _
    {n : ℕ}
    {version : Version}
    {client : ℕ → ClientFile}
    (h : Clients n version client)
    (i : ℕ)
    (mode : Mode)
  where
    abbrev r : ℕ → ClientRecord
    r s = (client s).opens

    -- another client with the property counts
    counts :
        (property : Property) (t : ℕ)
        → eqb t i ≡ false
        → has property (r t) ≡ true
        → ltb 0 (others n r property i) ≡ true
    counts property t e q =
        lt-ltb 0 (others n r property i)
        (some n (λ j. not (eqb j i) && has property (r j)) t (open_is_client h t (counted_open property (r t) q))
        (and_both (ap not e) q))

    -- where i is marked, no other client counts, and none lacks permission
    no-others : (property : Property) → (client i).marked ≡ true → ltb 0 (others n r property i) ≡ false
    no-others property m =
        le-ltb 0 (others n r property i)
        (le_of_eq (none n (λ j. not (eqb j i) && has property (r j))
        (λ j _ q. (h.apart i j (not-true (eqb j i) (and_left _ (has property (r j)) q))).marked_excludes m
        (inl (counted_open property (r j) (and_right (not (eqb j i)) _ q))))))

    no-uncached : (client i).marked ≡ true → ltb 0 (tally n r Uncached) ≡ false
    no-uncached m =
        le-ltb 0 (tally n r Uncached)
        (le_of_eq (none n (λ j. has Uncached (r j))
        (λ j _. change (λ j _. has Uncached (r j) ≡ true → ⊥) i
        (λ q. conflict ((h.own i).marked_open_caches m (counted_open Uncached (r i) q))
        (not-true (r i).caching (and_right (is_open (r i)) _ q)))
        (λ j e q. (h.apart i j e).marked_excludes m (inl (counted_open Uncached (r j) q))) j)))

    -- what is kept was there
    had : keeps_permission mode (r i) ≡ true → permission_at_grant n r i mode ≡ true → may_cache (client i) ≡ true
    had keeps p = sym (is_kept n r i mode keeps) ∙ p

    pub permitted : Permitted client i mode (permission_at_grant n r i mode)
    permitted =
        record {
          unwritten = λ p t e w. split (keeps_permission mode (r i))
              (λ keeps. (h.apart t i (other_sym i t e)).writer_bars_caching w (had keeps p))
              (λ asks. conflict p (is_denied_beside_writers n r i mode asks (counts Writing t e w)));
          alone = λ p w t e o. split (keeps_permission mode (r i))
              (λ keeps. (h.apart i t e).caching_writer_alone (had keeps p) (keeper_writes mode (r i) keeps w) o)
              (λ asks. conflict p
              (is_denied_to_writers n r i mode asks (asker_writes mode (r i) asks w) (counts Open t e o)));
          marked = λ m. split (keeps_permission mode (r i))
              (λ keeps. is_kept n r i mode keeps ∙ (h.own i).marked_open_caches m (keeper_open mode (r i) keeps))
              (λ asks. is_given_lem n r i mode asks (no-others Writing m) (no-others Open m) (no-uncached m));
          writing = λ p w. is_kept n r i mode (writer_keeps mode (r i) w) ∙ p;
        }

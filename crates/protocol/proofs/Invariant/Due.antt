-- The callbacks that an open is due are those that WS asks for: a marked client is called to write back, a caching
-- writer for both, and at a write open every caching client to invalidate. It leads to the open that begins to wait,
-- and with no callback due to the grant. Assumes nothing.
use Prim.Native.Nat.{ℕ, ◌<◌, ◌≤◌}
use mathlib.Core.Path.{◌≡◌, refl, sym, ◌∙◌, ap, subst}
use mathlib.Core.Bool.{true, false, ◌&&◌, ◌||◌, false≢true}
use mathlib.Core.Logic.{inl, ⊎_elim}
use mathlib.Core.List.{List}
use lib.Dec.{eqb, ltb}
use borrow.Author.Tests.{eqb-true, eqb-false, eq-eqb, ltb-true, ltb-false, not-true}
use Rattle.records.specs.declared.record.Mode.{Mode}
use Rattle.records.specs.declared.record.Mode.TheVariants.{Read, Write}
use Rattle.records.specs.declared.record.ClientRecord.{ClientRecord}
use Rattle.decision.specs.declared.state.Property.{Property}
use Rattle.decision.specs.declared.state.Property.TheVariants.{Open, Uncached, Writing}
use Rattle.records.specs.declared.version.Version.{Version}
use Rattle.protocol.specs.declared.client.ClientFile.{ClientFile}
use Rattle.records.specs.Version.{is_last_version}
use Rattle.records.specs.Record.{is_open, is_write, keeps_permission}
use Rattle.decision.specs.State.{has, tally, state_of}
use Rattle.decision.specs.Callback.{callback_due, writes_back, invalidates}
use Rattle.protocol.proofs.Invariant.{may_cache, has_open, has_writers, Clients, Agrees, Waiting, everybody}
use Rattle.protocol.proofs.Invariant.Flags.{conflict, is_false, split, and_left, and_right, other_sym, change}
use Rattle.protocol.proofs.Invariant.Count.{none, some, one, only}
use Rattle.protocol.proofs.Invariant.Change.{counted_open, open_is_client, marked_is_client}
use Rattle.protocol.proofs.Invariant.Permission.{keeper_open}
use Rattle.protocol.proofs.Invariant.Kind.{kind, closed_sends, reader_sends, writer_both, caching_drops, sends_whom}

module _
    {n : ℕ}
    {version : Version}
    {records : List ClientRecord}
    {last : ℕ}
    {client : ℕ → ClientFile}
    (h : Clients n version client)
    (table : Agrees n records last client everybody)
  where
    abbrev r : ℕ → ClientRecord
    r s = (client s).opens

    -- no other client than t is open
    abbrev Alone : ℕ → Type 0
    Alone t = (j : ℕ) → eqb j t ≡ false → has_open (client j) ≡ true → ⊥

    -- Where that is so, only t can count.
    module _ (t : ℕ) (alone : Alone t) where
      tally-none : (property : Property) → (has property (r t) ≡ true → ⊥) → tally n r property ≡ 0
      tally-none property unset =
          none n (λ j. has property (r j))
          (λ j _. change (λ j _. has property (r j) ≡ true → ⊥) t unset
          (λ j e q. alone j e (counted_open property (r j) q)) j)

      tally-one : has_open (client t) ≡ true → tally n r Open ≡ 1
      tally-one o = one n (λ j. has Open (r j)) t (open_is_client h t o) o alone

      uncached-none : (has_open (client t) ≡ true → may_cache (client t) ≡ true) → tally n r Uncached ≡ 0
      uncached-none p =
          tally-none Uncached
          (λ q. conflict (p (counted_open Uncached (r t) q)) (not-true (r t).caching (and_right (is_open (r t)) _ q)))

      -- and another opener does not keep its permission
      asks-alone : (opener : ℕ) (mode : Mode) → eqb t opener ≡ false → keeps_permission mode (r opener) ≡ false
      asks-alone opener mode e =
          is_false (keeps_permission mode (r opener))
          (λ keeps. alone opener (other_sym opener t e) (keeper_open mode (r opener) keeps))

    -- The callbacks of an open.
    module _ (opener : ℕ) (mode : Mode) where
      abbrev due : ℕ → ℕ
      due = callback_due n r last opener mode

      called : (t : ℕ) → eqb t opener ≡ false → keeps_permission mode (r opener) ≡ false → due t ≡ kind n r last t mode
      called t e asks = cc

      uncalled : due opener ≡ 0
      uncalled =
          let same = eq-eqb opener opener refl in
          split (keeps_permission mode (r opener)) (λ keeps. cc) (λ asks. cc)

      due-marked : (t : ℕ) → eqb t opener ≡ false → (client t).marked ≡ true → writes_back (due t) ≡ true
      due-marked t e m =
          let alone : Alone t = λ j away o. (h.apart t j away).marked_excludes m (inl o) in
          let is : last ≡ t = table.last_writer.named t refl m in
          let below : last < n = subst (λ j. j < n) (sym is) (marked_is_client h t m) in
          let same = eq-eqb t last (sym is) in
          ap writes_back (called t e (asks-alone t alone opener mode e))
          ∙ split (has_open (client t))
          (λ o. reader_sends n r last t mode (tally-one t alone o) (uncached-none t alone ((h.own t).marked_open_caches m))
          (tally-none t alone Writing ((h.own t).marked_excludes m)) below (subst (λ j. has_open (client j) ≡ true) (sym is) o) same)
          (λ o. closed_sends n r last t mode (tally-none t alone Open (λ q. conflict q o)) below same)

      due-writing :
          (t : ℕ)
          → eqb t opener ≡ false
          → may_cache (client t) ≡ true
          → has_writers (client t) ≡ true
          → due t ≡ 3
      due-writing t e p w =
          let alone : Alone t = λ j away o. (h.apart t j away).caching_writer_alone p w o in
          let o = (h.own t).caching_is_open p in
          called t e (asks-alone t alone opener mode e)
          ∙ writer_both n r last t mode (tally-one t alone o) (uncached-none t alone (λ _. p))
          (some n (λ j. has Writing (r j)) t (open_is_client h t o) w) o

      due-alone : (s t : ℕ) → writes_back (due t) ≡ true → eqb s t ≡ false → (client s).marked ≡ true → ⊥
      due-alone s t w e m =
          let asked = keeps_permission mode (r opener) || eqb t opener in
          let sends : writes_back (kind n r last t mode) ≡ true
          = split asked (λ none. let is : due t ≡ 0 = cc in absurd (false≢true (ap writes_back (sym is) ∙ w)))
          (λ some. let is : due t ≡ kind n r last t mode = cc in ap writes_back (sym is) ∙ w) in
          ⊎_elim (λ o. (h.apart s t (other_sym t s e)).marked_excludes m (inl o))
          (λ l. eqb-false s t e (sym (eqb-true t last l ∙ table.last_writer.named s refl m)))
          (sends_whom (state_of n r last) mode (r t) (eqb t last) sends)

    due-caching :
        (opener : ℕ) (mode : Mode) (t : ℕ)
        → eqb t opener ≡ false
        → is_write mode ≡ true
        → may_cache (client t) ≡ true
        → invalidates (due opener mode t) ≡ true
    due-caching opener Read t e w p = absurd (false≢true w)
    due-caching opener Write t e w p =
        let o = (h.own t).caching_is_open p in
        let below = open_is_client h t o in
        let asks = is_false (keeps_permission Write (r opener)) (λ keeps. (h.apart opener t e).writer_bars_caching keeps p) in
        ap invalidates (called opener Write t e asks)
        ∙ caching_drops n r last t (some n (λ j. has Open (r j)) t below o) o p
        (λ one dirty. only n (λ j. has Open (r j)) t last (eqb-true (tally n r Open) 1 one) below
        (ltb-true last n (and_left _ (is_open (r last)) dirty)) o (and_right (ltb last n) _ dirty))

    -- WS holds of the callbacks that are due.
    pub waiting-due :
        (opener : ℕ) (mode : Mode) (calls : ℕ → ℕ)
        → (is_write mode && is_last_version version) ≡ false
        → opener < n
        → ((t : ℕ) → t < n → calls t ≡ due opener mode t)
        → ((t : ℕ) → n ≤ t → calls t ≡ 0)
        → Waiting version client opener mode calls
    waiting-due opener mode calls left below is-due is_none =
        record {
          uncalled = is-due opener below ∙ uncalled opener mode;
          marked = λ t e m. ap writes_back (is-due t (marked_is_client h t m)) ∙ due-marked opener mode t e m;
          writing = λ t e p w. is-due t (open_is_client h t ((h.own t).caching_is_open p)) ∙ due-writing opener mode t e p w;
          caching = λ t e w p. ap invalidates (is-due t (open_is_client h t ((h.own t).caching_is_open p)))
              ∙ due-caching opener mode t e w p;
          alone = λ s t w e m. split (ltb t n)
              (λ is. due-alone opener mode s t (ap writes_back (sym (is-due t (ltb-true t n is))) ∙ w) e m)
              (λ is. false≢true (ap writes_back (sym (is_none t (ltb-false t n is))) ∙ w));
          version_left = left;
        }

-- Demand 3 for the fresh service of any sizes, from the promises of the protocol of one file: every accepted read gives
-- the latest accepted write, and every accepted end of recovery gives back the table. Assumes nothing.
use Prim.Native.Nat.{ℕ, ◌<◌}
use mathlib.Core.Path.{◌≡◌, refl, ap, ◌∙◌, subst⁻¹}
use mathlib.Core.Bool.{Bool, true, false, cond}
use mathlib.Core.List.{List, [], ◌∷◌}
use lib.ListN.{length, replicate, length-replicate, get_or-replicate}
use borrow.Author.Tests.{leb-false, not-false}
use Rattle.sizes.specs.declared.sizes.Sizes.{Sizes}
use Rattle.sizes.specs.Sizes.{max_clients, max_files, max_places, max_cells, in_force, Permitted, place, cell}
use Rattle.sizes.proofs.InForce.{in_force_permitted, file_fits}
use Rattle.protocol.specs.declared.client.Sides.{Sides}
use Rattle.protocol.specs.declared.reply.Reply.TheVariants.{Value}
use Rattle.protocol.specs.declared.step.Step.{Step}
use Rattle.protocol.specs.declared.step.Step.TheVariants.{Open, Close, Read, Write, Flush, Answer, Crash, Report, End}
use Rattle.protocol.specs.declared.step.Step.TheVariants.{Restart, Embargo, Lift}
use Rattle.protocol.specs.Client.{no_client, side_of}
use Rattle.protocol.specs.Entry.{fresh_entry}
use Rattle.protocol.specs.Book.{History, latest, wrote, lost}
use Rattle.protocol.specs.Table.{Row, seen}
use Rattle.protocol.proofs.Seen.{fresh_seen}
use Rattle.protocol.proofs.View.{View, fresh_view}
use Rattle.protocol.proofs.Promises.{Promises}
use Rattle.decision.proofs.Beyond.{get_d_alike}
use Rattle.blocks.specs.Stores.{value_read}
use Rattle.table.specs.TableStep.{no_entry, no_sides}
use Rattle.service.specs.declared.service.Service.{Service}
use Rattle.service.specs.declared.outcome.Outcome.{Outcome}
use Rattle.service.specs.Aside.{Forgotten}
use Rattle.service.specs.Contents.{table_in, embargoed_at, client_at, stores_of, with_space}
use Rattle.service.specs.Embargo.{put_aside, grants_aside}
use Rattle.service.specs.Step.{step_of}
use Rattle.service.specs.Fresh.{fresh}
use Rattle.service.specs.Demand3.{refused, after, Memory, blank, at_block, delays, fed, remembered, table_of, NoOpenWaits, Recovery, none, since}
use Rattle.service.specs.Demand3.{recovery_after, ReadIsLatest, EndRestores, Holds, Consistent}
use Rattle.service.proofs.Tests.{split, conflict}
use Rattle.service.proofs.Views.{Sized, sized_stored, is_in, within_none, view_of, same_view}
use Rattle.service.proofs.Accepted.{Passed, tests_of, done_of, when_accepted, done_but_store, crash_accepted}
use Rattle.service.proofs.Accepted.{refused_changes_nothing, answering_service}
use Rattle.service.proofs.Invariant.{Runs, Stands, Sound}
use Rattle.service.proofs.Forgotten.{forgotten_kept}
use Rattle.service.proofs.WhileRunning
use Rattle.service.proofs.WhileRecovering
use Rattle.service.proofs.WhileAside.{aside_read, aside_write, unseen-runs, unseen-recovers, aside-runs}
use Rattle.service.proofs.WhileAside.{told-runs, told-recovers, restart-runs, restart-recovers}

-- ---- the fresh service

-- the sides of a file of which no client has anything
abbrev fresh_sides : Sides
fresh_sides = record { of = replicate max_clients no_client }

fresh_sized : (z : Sizes) → Sized (in_force z) (fresh z)
unfolding fresh
fresh_sized z =
    record {
      sizes = refl;
      entries = length-replicate max_files (fresh_entry max_clients);
      words = length-replicate {A = ℕ} max_places 0;
      reports = length-replicate max_clients false;
      embargoes = length-replicate max_clients false;
      files = length-replicate max_files fresh_sides;
      sides = λ f hf.
          ap (λ (x : Sides). length x.of) (get_or-replicate max_files f fresh_sides no_sides hf)
          ∙ length-replicate max_clients no_client;
      copies = length-replicate {A = ℕ} max_cells 0;
      held = length-replicate max_cells false;
      dirty = length-replicate max_cells false;
    }

pub fresh_view_lem :
    (z : Sizes) (f b : ℕ) → f < (in_force z).files → view_of (in_force z) (fresh z) f b ≡ fresh_view (in_force z).clients
unfolding fresh
fresh_view_lem z f b hf =
    let n = (in_force z).clients in
    let shows : ℕ → Bool = is_in (in_force z) (fresh z) in
    let most = in_force_permitted z in
    let hf' = file_fits most hf in
    same_view
    (ap (seen n) (get_or-replicate max_files f (fresh_entry max_clients) no_entry hf')
    ∙ fresh_seen n max_clients most.clients)
    (get_d_alike max_places 0 (place f b))
    (λ j. within_none shows no_client j _
    (ap (λ x. side_of x j) (get_or-replicate max_files f fresh_sides no_sides hf') ∙ get_d_alike max_clients no_client j))
    (λ j. within_none shows 0 j _ (get_d_alike max_cells 0 (cell j f b)))
    (λ j. within_none shows false j _ (get_d_alike max_cells false (cell j f b)))
    (λ j. within_none shows false j _ (get_d_alike max_cells false (cell j f b)))

-- nobody is under embargo, and nobody has reported
fresh_forgotten : (z : Sizes) → Forgotten (fresh z)
unfolding fresh
fresh_forgotten z =
    record {
      unknown = λ i f _ _ out. conflict out (get_d_alike max_clients false i);
      unreported = λ i _ _. get_d_alike max_clients false i;
      quiet = λ _ i _. get_d_alike max_clients false i;
    }

fresh_running : (z : Sizes) → (table_in (fresh z)).recovering ≡ false
unfolding fresh
fresh_running z = refl

-- ---- every list of steps

-- A refused step leaves the reference memory and the recovery as they are; a crash is never refused.
refused_kept :
    (Q : Memory → Recovery → Type 0) (s : Service) (m : Memory) (r : Recovery) (x : Step)
    → refused s x ≡ true
    → Q m r
    → Q (fed m x true (delays s) (embargoed_at s)) (recovery_after s r x true)
refused_kept Q s m r (Open mode i f) e q = q
refused_kept Q s m r (Close mode i f) e q = q
refused_kept Q s m r (Read i f b) e q = q
refused_kept Q s m r (Write i f b v) e q = q
refused_kept Q s m r (Flush i f b) e q = q
refused_kept Q s m r (Answer i f) e q = q
refused_kept Q s m r Crash e q = conflict e (crash_accepted s)
refused_kept Q s m r (Report i) e q = q
refused_kept Q s m r End e q = q
refused_kept Q s m r (Restart i) e q = q
refused_kept Q s m r (Embargo i f) e q = q
refused_kept Q s m r (Lift i) e q = q

-- what Demand 3 asks of the service after an accepted end
abbrev Restored : Recovery → Service → Type 0
Restored r s = (t : List Row) × (r ≡ since t) × (table_of s ≡ t) × NoOpenWaits s

module _
    {z : Sizes}
    (most : Permitted z)
    (Running : View → History → Type 0)
    (Recovering : View → History → (ℕ → Bool) → Row → Type 0)
    (promises : Promises z.clients Running Recovering) where
  abbrev pub Holding : Service → Memory → Recovery → Type 0
  Holding = Sound z Running Recovering

  -- the store does not matter to the invariant
  stands_stored :
      (s : Service) (m : Memory) (r : Recovery) (used : List Bool) (free : ℕ)
      → Stands z Running Recovering s m r
      → Stands z Running Recovering (with_space s used free) m r
  stands_stored s m none used free h =
      record { sized = sized_stored s used free h.sized; state = h.state; views = h.views }
  stands_stored s m (since t) used free h =
      record { sized = sized_stored s used free h.sized; state = h.state; rows = h.rows; views = h.views }

  holding_stored :
      (s : Service) (m : Memory) (r : Recovery) (used : List Bool) (free : ℕ)
      → Holding s m r
      → Holding (with_space s used free) m r
  holding_stored s m r used free h =
      record {
        stands = stands_stored s m r used free h.stands;
        forgotten =
            record {
              unknown = h.forgotten.unknown;
              unreported = h.forgotten.unreported;
              quiet = h.forgotten.quiet;
            };
      }

  stands_sized : (s : Service) (m : Memory) (r : Recovery) → Stands z Running Recovering s m r → Sized z s
  stands_sized s m none h = h.sized
  stands_sized s m (since t) h = h.sized

  pub sized : (s : Service) (m : Memory) (r : Recovery) → Holding s m r → Sized z s
  sized s m r h = stands_sized s m r h.stands

  -- A read or a write: what a client under embargo does, no view shows.
  read_stands :
      (s : Service) (m : Memory) (r : Recovery) (i f b : ℕ)
      → Stands z Running Recovering s m r
      → Passed (tests_of z s (Read i f b))
      → Stands z Running Recovering (done_of z s (Read i f b)).service m r
  read_stands s m r i f b h p =
      split (embargoed_at s i)
      (λ out. subst⁻¹ (λ s'. Stands z Running Recovering s' m r) (aside_read z s i f b out p) h)
      (λ unbarred. shown r h unbarred)
    where
      shown :
          (r : Recovery)
          → Stands z Running Recovering s m r
          → embargoed_at s i ≡ false
          → Stands z Running Recovering (done_of z s (Read i f b)).service m r
      shown none h unbarred = (WhileRunning.read_kept most promises h i f b unbarred p).1
      shown (since t) h unbarred = (WhileRecovering.read_kept most promises h i f b unbarred p).1

  write_stands :
      (s : Service) (m : Memory) (r : Recovery) (i f b v : ℕ)
      → Stands z Running Recovering s m r
      → Passed (tests_of z s (Write i f b v))
      → Stands z Running Recovering (done_of z s (Write i f b v)).service
      (cond (embargoed_at s i) m (at_block m f b (wrote i v (delays s i f)))) r
  write_stands s m r i f b v h p =
      let s' : Service = (done_of z s (Write i f b v)).service in
      let m' : Memory = at_block m f b (wrote i v (delays s i f)) in
      split (embargoed_at s i)
      (λ out. subst⁻¹ (λ t. Stands z Running Recovering s' (cond t m m') r) out (hidden r h out))
      (λ unbarred. subst⁻¹ (λ t. Stands z Running Recovering s' (cond t m m') r) unbarred (shown r h unbarred))
    where
      shown :
          (r : Recovery)
          → Stands z Running Recovering s m r
          → embargoed_at s i ≡ false
          → Stands z Running Recovering (done_of z s (Write i f b v)).service (at_block m f b (wrote i v (delays s i f))) r
      shown none h unbarred = WhileRunning.write_kept most promises h i f b v unbarred p
      shown (since t) h unbarred = WhileRecovering.write_kept most promises h i f b v unbarred p

      hidden :
          (r : Recovery)
          → Stands z Running Recovering s m r
          → embargoed_at s i ≡ true
          → Stands z Running Recovering (done_of z s (Write i f b v)).service m r
      hidden none h out =
          let (hb, hf, step) = aside_write z s i f b out most h.sized v p in unseen-runs step hf hb h
      hidden (since t) h out =
          let (hb, hf, step) = aside_write z s i f b out most h.sized v p in unseen-recovers step hf hb h

  -- An accepted step keeps the invariant. While the server runs no report and no end is accepted; while it recovers no
  -- open, close, flush, answer or embargo.
  accepted_stands :
      (s : Service) (m : Memory) (r : Recovery) (x : Step)
      → Stands z Running Recovering s m r
      → Forgotten s
      → Passed (tests_of z s x)
      → Stands z Running Recovering (done_of z s x).service (fed m x false (delays s) (embargoed_at s))
      (recovery_after s r x false)
  accepted_stands s m r (Read i f b) h u p = read_stands s m r i f b h p
  accepted_stands s m r (Write i f b v) h u p = write_stands s m r i f b v h p
  accepted_stands s m none (Open mode i f) h u p = WhileRunning.open_kept most promises h mode i f p
  accepted_stands s m none (Close mode i f) h u p = WhileRunning.close_kept most promises h mode i f p
  accepted_stands s m none (Flush i f b) h u p = WhileRunning.flush_kept most promises h i f b p
  accepted_stands s m none (Answer i f) h u p = WhileRunning.answer_kept most promises h u i f p
  accepted_stands s m none Crash h u p = WhileRunning.crash_kept most promises h
  accepted_stands s m none (Report i) h u (_, (_, (recovers, _))) =
      conflict (not-false (table_in s).recovering recovers) h.state
  accepted_stands s m none End h u (recovers, _) = conflict (not-false (table_in s).recovering recovers) h.state
  accepted_stands s m none (Restart i) h u (client, _) =
      restart-runs most promises (leb-false z.clients i client) u h
  accepted_stands s m none (Embargo i f) h u (client, _) =
      subst⁻¹ (λ s'. Runs z Running s' (λ f b. lost i (m f b))) (answering_service (put_aside z s i) (grants_aside z s i))
      (aside-runs most promises (leb-false z.clients i client) u h)
  accepted_stands s m none (Lift i) h u (client, (out, _)) =
      told-runs most promises (leb-false z.clients i client) (not-false (embargoed_at s i) out) h
  accepted_stands s m (since t) (Open mode i f) h u (_, (_, (_, (runs, _)))) = conflict h.state runs
  accepted_stands s m (since t) (Close mode i f) h u (_, (_, (_, (runs, _)))) = conflict h.state runs
  accepted_stands s m (since t) (Flush i f b) h u (_, (_, (_, (_, (runs, _))))) = conflict h.state runs
  accepted_stands s m (since t) (Answer i f) h u (_, (_, (_, (runs, _)))) = conflict h.state runs
  accepted_stands s m (since t) Crash h u p = WhileRecovering.crash_kept most promises h
  accepted_stands s m (since t) (Report i) h u p = WhileRecovering.report_kept most promises h i p
  accepted_stands s m (since t) End h u p = (WhileRecovering.end_kept most promises h p).0
  accepted_stands s m (since t) (Restart i) h u (client, _) =
      restart-recovers most promises (leb-false z.clients i client) u h
  accepted_stands s m (since t) (Embargo i f) h u (_, (_, (runs, _))) = conflict h.state runs
  accepted_stands s m (since t) (Lift i) h u (client, (out, _)) =
      told-recovers most promises (leb-false z.clients i client) (not-false (embargoed_at s i) out) h

  accepted_kept :
      (s : Service) (m : Memory) (r : Recovery) (x : Step)
      → Holding s m r
      → Passed (tests_of z s x)
      → Holding (done_of z s x).service (fed m x false (delays s) (embargoed_at s)) (recovery_after s r x false)
  accepted_kept s m r x h p =
      let stands = accepted_stands s m r x h.stands h.forgotten p in
      let n = stands_sized (done_of z s x).service (fed m x false (delays s) (embargoed_at s)) (recovery_after s r x false) stands in
      record { stands = stands; forgotten = forgotten_kept most (sized s m r h) h.forgotten x p n }

  pub after_kept :
      (s : Service) (m : Memory) (r : Recovery) (x : Step)
      → Holding s m r
      → Holding (after s x) (remembered s m x) (recovery_after s r x (refused s x))
  after_kept s m r x h =
      split (refused s x)
      (λ e. kept e (refused_changes_nothing s x e) (refused_kept (Holding s) s m r x e h))
      (λ e.
      let (p, done) = when_accepted s x (sized s m r h).sizes e in
      subst⁻¹ (λ b. Holding (after s x) (fed m x b (delays s) (embargoed_at s)) (recovery_after s r x b)) e
      (done_but_store (λ t. Holding t (fed m x false (delays s) (embargoed_at s)) (recovery_after s r x false))
      (λ t used free.
      holding_stored t (fed m x false (delays s) (embargoed_at s)) (recovery_after s r x false) used free)
      z s x done (accepted_kept s m r x h p)))
    where
      kept : {b : Bool} {s' : Service}
          → refused s x ≡ b
          → after s x ≡ s'
          → Holding s' (fed m x b (delays s) (embargoed_at s)) (recovery_after s r x b)
          → Holding (after s x) (remembered s m x) (recovery_after s r x (refused s x))
      kept {s' = s'} e q k =
          subst⁻¹ (λ s'. Holding s' (remembered s m x) (recovery_after s r x (refused s x))) q
          (subst⁻¹ (λ b. Holding s' (fed m x b (delays s) (embargoed_at s)) (recovery_after s r x b)) e k)

  value_latest :
      (s : Service) (m : Memory) (r : Recovery) (i f b : ℕ)
      → Stands z Running Recovering s m r
      → embargoed_at s i ≡ false
      → Passed (tests_of z s (Read i f b))
      → value_read (client_at s i f).opens.caching i f b (stores_of s) ≡ latest (m f b)
  value_latest s m none i f b h unbarred p = (WhileRunning.read_kept most promises h i f b unbarred p).0
  value_latest s m (since t) i f b h unbarred p = (WhileRecovering.read_kept most promises h i f b unbarred p).0

  pub read_latest : (s : Service) (m : Memory) (r : Recovery) (x : Step) → Holding s m r → ReadIsLatest s m x
  read_latest s m r x h i f b e unbarred =
      subst⁻¹ (λ x. refused s x ≡ false → (step_of s x).reply ≡ Value (latest (m f b))) e
      (λ a.
      let (p, done) = when_accepted s (Read i f b) (sized s m r h).sizes a in
      ap (λ (o : Outcome). o.reply) done ∙ ap Value (value_latest s m r i f b h.stands unbarred p))

  table_restored :
      (s : Service) (m : Memory) (r : Recovery)
      → Stands z Running Recovering s m r
      → Passed (tests_of z s End)
      → Restored r (done_of z s End).service
  table_restored s m none h (recovers, _) = conflict (not-false (table_in s).recovering recovers) h.state
  table_restored s m (since t) h p =
      let (_, table, none_waits_lem) = WhileRecovering.end_kept most promises h p in
      (t, refl, table, none_waits_lem)

  pub end_restores : (s : Service) (m : Memory) (r : Recovery) (x : Step) → Holding s m r → EndRestores s r x
  end_restores s m r x h e =
      subst⁻¹ (λ x. refused s x ≡ false → Restored r (after s x)) e
      (λ a.
      let (p, done) = when_accepted s End (sized s m r h).sizes a in
      done_but_store (Restored r) (λ t used free h. h) z s End done (table_restored s m r h.stands p))

  pub holds : (s : Service) (m : Memory) (r : Recovery) (steps : List Step) → Holding s m r → Holds s m r steps
  holds s m r [] h = tt
  holds s m r (x ∷ steps) h = (
    read_latest s m r x h,
    end_restores s m r x h,
    holds (after s x) (remembered s m x) (recovery_after s r x (refused s x)) steps (after_kept s m r x h),
  )

module _
    (z : Sizes)
    (Running : View → History → Type 0)
    (Recovering : View → History → (ℕ → Bool) → Row → Type 0)
    (promises : Promises (in_force z).clients Running Recovering) where
  pub fresh_sound : Sound (in_force z) Running Recovering (fresh z) blank none
  fresh_sound =
      record {
        stands =
            record {
              sized = fresh_sized z;
              state = fresh_running z;
              views = λ f b hf hb. subst⁻¹ (λ v. Running v []) (fresh_view_lem z f b hf) promises.fresh;
            };
        forgotten = fresh_forgotten z;
      }

  pub consistent : Consistent (fresh z)
  consistent =
      record {
        always = λ steps.
            holds (in_force_permitted z) Running Recovering promises (fresh z) blank none steps fresh_sound;
      }

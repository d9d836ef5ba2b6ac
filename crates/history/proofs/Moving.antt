-- The share moves to a standby, whatever that holds: as far as the sizes go, the service is then the one after a crash
-- of the old server. Assumes nothing.
use Prim.Native.Nat.{ℕ, ◌<◌}
use mathlib.Core.Path.{◌≡◌, sym, ap, ◌∙◌, subst, subst⁻¹}
use mathlib.Core.Bool.{false}
use mathlib.Core.List.{List}
use lib.ListN.{length, get_or}
use Rattle.records.specs.Version.{as_read}
use Rattle.sizes.specs.declared.sizes.Sizes.{Sizes}
use Rattle.sizes.specs.Sizes.{in_force, Permitted, place}
use Rattle.sizes.proofs.InForce.{in_force_permitted}
use Rattle.protocol.specs.declared.step.Step.TheVariants.{Crash}
use Rattle.protocol.specs.Table.{Row, seen}
use Rattle.protocol.proofs.Invariant.{Recovering}
use Rattle.table.specs.TableStep.{entry_of, is_embargoed, table_step}
use Rattle.service.specs.declared.service.Server.{Server}
use Rattle.service.specs.declared.service.Service.{Service}
use Rattle.service.specs.declared.outcome.Outcome.{Outcome}
use Rattle.service.specs.Aside.{Forgotten}
use Rattle.service.specs.Contents.{sizes_of, table_in, entry_at, block_at, used_at, embargoed_at}
use Rattle.service.specs.Step.{moved, step_of}
use Rattle.service.specs.Space.{spaced}
use Rattle.service.specs.Demand3.{after, Memory, Recovery, none, since, begun}
use Rattle.service.proofs.Views.{Sized, In}
use Rattle.service.proofs.Invariant.{Recovers}
use Rattle.service.proofs.Reached.{Reached, reached-sized, reached-after}
use Rattle.service.proofs.StoreKept.{Kept}
use Rattle.restore.specs.Reading.{with_contents, reading_of}
use Rattle.restore.specs.Exact.{used_values}
use Rattle.restore.proofs.ReadsBack.{reads_back}
use Rattle.history.specs.Event.{served_by, Unchanged, Whole}
use Rattle.history.proofs.Reading.{version_same, value_same}
use Rattle.history.proofs.Standby.{left_by, contents, embargo-alike, moved-kept, moved-recovers, moved-forgotten}

crashed_is : {z : Sizes} (x : Service) → sizes_of x ≡ z → after x Crash ≡ left_by z x
unfolding step_of moved spaced table_step
crashed_is x e = ap (λ (y : Sizes). left_by y x) e

module _
    (z : Sizes)
    (s : Service)
    (m : Memory)
    (r : Recovery)
    (h : Reached z s m r)
    (room : Kept s)
    (v : Server)
    (whole : Whole v)
    (bytes : List ℕ)
    (u : Unchanged s bytes) where
  abbrev most : Permitted (in_force z)
  most = in_force_permitted z

  abbrev clients : ℕ
  clients = (in_force z).clients

  pub sized_s : Sized (in_force z) s
  sized_s = reached-sized z s m r h

  -- the blocks that the image gives back
  abbrev given : List ℕ
  given = used_values u.written.server.used u.written.server.blocks

  abbrev pub taken : Sizes → Service
  taken y =
      contents most s sized_s v whole (table_in u.written).files u.written.server.used given
      (table_in u.written).embargoed y

  -- what the standby holds then
  pub moved_is : (reading_of (served_by v s) bytes).service ≡ taken (in_force z)
  moved_is =
      ap (λ b. (reading_of (served_by v s) b).service) (sym u.image)
      ∙ ap (λ (o : Outcome). o.service) (reads_back (served_by v s) u.written u.fits u.sizes)
      ∙ ap
      (λ (x : Service).
      with_contents x (table_in u.written).files u.written.server.used given (table_in u.written).embargoed)
      (crashed_is (served_by v s) sized_s.sizes)
      ∙ ap taken sized_s.sizes

  -- the old server has a record and a call for each client
  sizes_in_lem : (f : ℕ) → f < (in_force z).files
      → (length (seen clients (entry_at s f)).records ≡ clients) × (length (seen clients (entry_at s f)).calls ≡ clients)
  sizes_in_lem f hf = by r h
    where
      by : (r : Recovery) → Reached z s m r
          → (length (seen clients (entry_at s f)).records ≡ clients) × (length (seen clients (entry_at s f)).calls ≡ clients)
      by none h = let view = h.stands.views f 0 hf most.some_block in (view.table.size, view.calls)
      by (since t) h = let view = h.stands.views f 0 hf most.some_block in (view.table.size, view.calls)

  -- the embargoes of the image are those of the old server
  aside_same : (i : ℕ) → i < clients → is_embargoed (table_in u.written).embargoed i ≡ embargoed_at s i
  aside_same i hi = sym (u.embargoes i (subst⁻¹ (λ (y : Sizes). i < y.clients) sized_s.sizes hi))

  pub taken_aside : (i : ℕ) → i < clients → embargoed_at (taken (in_force z)) i ≡ embargoed_at s i
  taken_aside =
      embargo-alike most s sized_s v whole (table_in u.written).files u.written.server.used given
      (table_in u.written).embargoed aside_same

  pub taken_in : {i : ℕ} → In (in_force z) (taken (in_force z)) i → In (in_force z) s i
  taken_in {i} here =
      record { below = here.below; unbarred = sym (taken_aside i here.below) ∙ here.unbarred }

  -- the used blocks and the blocks of the image are those of the old server
  marks :
      (f b : ℕ)
      → f < (in_force z).files
      → b < (in_force z).blocks
      → get_or u.written.server.used (place f b) false ≡ used_at s f b
  marks f b hf hb =
      sym
      (u.used f b (subst⁻¹ (λ (y : Sizes). f < y.files) sized_s.sizes hf)
      (subst⁻¹ (λ (y : Sizes). b < y.blocks) sized_s.sizes hb))

  values : (f b : ℕ) → f < (in_force z).files → b < (in_force z).blocks → get_or given (place f b) 0 ≡ block_at s f b
  values f b hf hb =
      value_same z s m r h room bytes u f b (subst⁻¹ (λ (y : Sizes). f < y.files) sized_s.sizes hf)
      (subst⁻¹ (λ (y : Sizes). b < y.blocks) sized_s.sizes hb)

  pub moved_stored : Kept (taken (in_force z))
  moved_stored =
      moved-kept most s sized_s v whole (table_in u.written).files u.written.server.used given
      (table_in u.written).embargoed room marks values aside_same

  pub moved_reached : Reached z (taken (in_force z)) m (begun s r)
  moved_reached = by r (reached-after z s m r h Crash)
    where
      versions : (f : ℕ) → f < (in_force z).files → as_read (entry_of (table_in u.written).files f).version ≡ (entry_at s f).version
      versions f hf =
          version_same z s m r h room bytes u f (subst⁻¹ (λ (y : Sizes). f < y.files) sized_s.sizes hf)

      same : {t : List Row} → Recovers (in_force z) (Recovering clients) (after s Crash) m t → Recovers (in_force z) (Recovering clients) (taken (in_force z)) m t
      same {t} c =
          moved-recovers most s sized_s v whole (table_in u.written).files u.written.server.used given
          (table_in u.written).embargoed versions values aside_same
          (λ f hf. (sizes_in_lem f hf).0)
          (λ f hf. (sizes_in_lem f hf).1)
          (Recovering clients) m t
          (subst (λ (x : Service). Recovers (in_force z) (Recovering clients) x m t) (crashed_is s sized_s.sizes) c)

      forgotten : Forgotten (after s Crash) → Forgotten (taken (in_force z))
      forgotten c =
          moved-forgotten most s sized_s v whole (table_in u.written).files u.written.server.used given
          (table_in u.written).embargoed versions values aside_same
          (λ f hf. (sizes_in_lem f hf).0)
          (λ f hf. (sizes_in_lem f hf).1)
          (subst Forgotten (crashed_is s sized_s.sizes) c)

      by : (r : Recovery) → Reached z (after s Crash) m (begun s r) → Reached z (taken (in_force z)) m (begun s r)
      by none c = record { stands = same c.stands; forgotten = forgotten c.forgotten }
      by (since t) c = record { stands = same c.stands; forgotten = forgotten c.forgotten }

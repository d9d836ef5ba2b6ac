-- What a client under embargo does, what becomes of it when it is told, and of anybody who is put under embargo: the
-- invariant of the whole service is kept, and the reference memory loses what the client had not sent. Assumes nothing.
use Prim.Native.Nat.{ℕ, zero, suc, ◌<◌}
use mathlib.Core.Path.{◌≡◌, refl, ap, ◌∙◌, subst⁻¹}
use mathlib.Core.Bool.{Bool, true, false, not, ◌&&◌, ◌||◌}
use mathlib.Core.List.{List, [], ◌∷◌, map}
use native.Mathlib.Omega.{arith}
use lib.Dec.{ltb}
use lib.ListN.{length, get_or, length-map}
use borrow.Author.Tests.{leb-false}
use Rattle.sizes.specs.declared.sizes.Sizes.{Sizes}
use Rattle.sizes.specs.Sizes.{Permitted}
use Rattle.protocol.specs.declared.client.ClientFile.{ClientFile}
use Rattle.protocol.specs.declared.step.Step.TheVariants.{Read, Write}
use Rattle.protocol.specs.Book.{History, lost}
use Rattle.protocol.specs.Client.{read_needs_server, write_needs_server}
use Rattle.protocol.specs.Table.{Row, without}
use Rattle.protocol.proofs.View.{View, at, restarted_view}
use Rattle.protocol.proofs.Promises.{Promises}
use Rattle.blocks.specs.Stores.{written_stores}
use Rattle.service.specs.declared.service.Service.{Service}
use Rattle.service.specs.Aside.{Forgotten}
use Rattle.service.specs.Contents.{embargoed_at, client_at, held_at, stores_of, with_stores}
use Rattle.service.specs.Demand3.{Memory}
use Rattle.service.specs.Embargo.{put_aside, told, restarted}
use Rattle.service.specs.Space.{takes_place}
use Rattle.service.proofs.Tests.{conflict, neither_first}
use Rattle.service.proofs.Views.{Sized, view_of, heard_of}
use Rattle.service.proofs.BlockSteps.{BlockStep, hidden_write}
use Rattle.service.proofs.Accepted.{Passed, tests_of, done_of}
use Rattle.service.proofs.Invariant.{row_in, Runs, Recovers, InRecovery, after_block}
use Rattle.service.proofs.WhileRecovering.{no_fetch, unfetched}
use Rattle.service.proofs.Forgetting.{puts-aside, marked-self}
use Rattle.service.proofs.Telling.{tells}

-- ---- it reads and writes

-- a step that is not refused with 20 does not need the server
not_needed : (needs aside : Bool) → aside ≡ true → (needs && aside) ≡ false → needs ≡ false
not_needed true aside out e = conflict out e
not_needed false aside out e = refl

-- and a write that does not need it goes into the copy
caches : (own : ClientFile) → write_needs_server own ≡ false → own.opens.caching ≡ true
caches own e = by_flags (ltb 0 own.opens.writers) own.opens.caching e
  where
    by_flags : (writes caching : Bool) → not (writes && caching) ≡ false → caching ≡ true
    by_flags true true e = refl
    by_flags true false e = conflict refl e
    by_flags false caching e = conflict refl e

module _ (z : Sizes) (s : Service) (i f b : ℕ) (out : embargoed_at s i ≡ true) where
  -- a read changes nothing
  pub aside_read : Passed (tests_of z s (Read i f b)) → (done_of z s (Read i f b)).service ≡ s
  aside_read (_, (_, (_, (aside, _)))) =
      unfetched s (client_at s i f).opens.caching i f b
      (no_fetch (client_at s i f) (held_at s i f b)
      (not_needed (read_needs_server (client_at s i f) (held_at s i f b)) (embargoed_at s i) out aside))

  -- a write stands in its own copy
  pub aside_caches : (v : ℕ) → Passed (tests_of z s (Write i f b v)) → (client_at s i f).opens.caching ≡ true
  aside_caches v (_, (_, (_, (aside, _)))) =
      let needs : Bool = write_needs_server (client_at s i f) in
      let takes : Bool = takes_place s (Write i f b v) in
      caches (client_at s i f) (neither_first needs takes (not_needed (needs || takes) (embargoed_at s i) out aside))

  pub aside_write :
      Permitted z
      → Sized z s
      → (v : ℕ)
      → Passed (tests_of z s (Write i f b v))
      → (b < z.blocks) × (f < z.files) × BlockStep z s (done_of z s (Write i f b v)).service f b (view_of z s f b)
  aside_write most n v passed =
      let hi : i < z.clients = leb-false z.clients i passed.0 in
      let hf : f < z.files = leb-false z.files f passed.1.0 in
      let hb : b < z.blocks = leb-false z.blocks b passed.1.1.0 in (
        hb,
        hf,
        subst⁻¹ (λ t. BlockStep z s (with_stores s (written_stores t i f b v (stores_of s))) f b (view_of z s f b))
            (aside_caches v passed) (hidden_write most i n hi hf hb out v),
      )

-- the invariant, where every view stays
module _
    {z : Sizes}
    {s s' : Service}
    {m : Memory}
    {f b : ℕ}
    (p : BlockStep z s s' f b (view_of z s f b))
    (hf : f < z.files)
    (hb : b < z.blocks)
  where
    pub unseen-runs : {Running : View → History → Type 0} → Runs z Running s m → Runs z Running s' m
    unseen-runs {Running} r =
        record {
          sized = p.sized;
          state = p.recovering ∙ r.state;
          views = after_block z (λ f v x. Running v x) r.views p (r.views f b hf hb) (λ g c e. refl);
        }

    pub unseen-recovers :
        {Recovering : View → History → (ℕ → Bool) → Row → Type 0} {t : List Row}
        → Recovers z Recovering s m t
        → Recovers z Recovering s' m t
    unseen-recovers {Recovering} {t} r =
        let views : InRecovery z Recovering (heard_of z s) t s' m =
        after_block z (λ g w k. Recovering w k (heard_of z s) (row_in z t g)) r.views p (r.views f b hf hb)
        (λ g c e. refl) in
        record {
          sized = p.sized;
          state = p.recovering ∙ r.state;
          rows = r.rows;
          views = subst⁻¹ (λ heard. InRecovery z Recovering heard t s' m) p.heard views;
        }

-- ---- it is put under embargo, and told

module _
    {z : Sizes}
    (most : Permitted z)
    {Running : View → History → Type 0}
    {Recovering : View → History → (ℕ → Bool) → Row → Type 0}
    (promises : Promises z.clients Running Recovering)
    {i : ℕ}
    (hi : i < z.clients)
    {s : Service}
    {m : Memory}
  where
    pub aside-runs : Forgotten s → Runs z Running s m → Runs z Running (put_aside z s i) (λ f b. lost i (m f b))
    aside-runs h r =
        let p = puts-aside most hi r.sized h in
        record {
          sized = p.sized;
          state = p.recovering ∙ r.state;
          views = λ f b hf hb.
              subst⁻¹ (λ v. Running v (lost i (m f b))) (p.views f b hf hb)
              (promises.restarts (view_of z s f b) (m f b) i (r.views f b hf hb) hi);
        }

    aside-recovers :
        {t : List Row}
        → Forgotten s
        → Recovers z Recovering s m t
        → Recovers z Recovering (put_aside z s i) (λ f b. lost i (m f b)) (map (without i) t)
    aside-recovers {t} h r =
        let p = puts-aside most hi r.sized h in
        let s' : Service = put_aside z s i in
        record {
          sized = p.sized;
          state = p.recovering ∙ r.state;
          rows = length-map t (without i) ∙ r.rows;
          views = λ f b hf hb.
              subst⁻¹ (λ v. Recovering v (lost i (m f b)) (heard_of z s') (row_in z (map (without i) t) f)) (p.views f b hf hb)
              (subst⁻¹ (λ l. Recovering (restarted_view z.clients (view_of z s f b) i) (lost i (m f b)) l
              (row_in z (map (without i) t) f)) p.heard
              (subst⁻¹ (λ row. Recovering (restarted_view z.clients (view_of z s f b) i) (lost i (m f b))
              (at i true (heard_of z s)) row)
              (row-without t f (subst⁻¹ (λ k. f < k) r.rows hf))
              (promises.restarts_cut_off (view_of z s f b) (m f b) i (heard_of z s) (row_in z t f) (r.views f b hf hb) hi)));
        }
      where
        -- the default of a list does not matter inside it
        row-without : (t : List Row) (f : ℕ) → f < length t → row_in z (map (without i) t) f ≡ without i (row_in z t f)
        row-without [] f below = absurd (omega arith)
        row-without (x ∷ t) zero below = refl
        row-without (x ∷ t) (suc f) below = row-without t f (omega arith)

    pub told-runs : embargoed_at s i ≡ true → Runs z Running s m → Runs z Running (told z s i) m
    told-runs out r =
        let p = tells most hi r.sized out in
        record {
          sized = p.sized;
          state = p.recovering ∙ r.state;
          views = λ f b hf hb. subst⁻¹ (λ v. Running v (m f b)) (p.views f b hf hb) (r.views f b hf hb);
        }

    pub told-recovers :
        {t : List Row} → embargoed_at s i ≡ true → Recovers z Recovering s m t → Recovers z Recovering (told z s i) m t
    told-recovers {t} out r =
        let p = tells most hi r.sized out in
        record {
          sized = p.sized;
          state = p.recovering ∙ r.state;
          rows = r.rows;
          views = λ f b hf hb.
              subst⁻¹ (λ v. Recovering v (m f b) (heard_of z (told z s i)) (row_in z t f)) (p.views f b hf hb)
              (subst⁻¹ (λ l. Recovering (view_of z s f b) (m f b) l (row_in z t f)) (p.heard r.state) (r.views f b hf hb));
        }

-- a restart is both
pub aside_self :
    {z : Sizes}
    → Permitted z
    → (i : ℕ)
    → i < z.clients
    → {s : Service}
    → Sized z s
    → Forgotten s
    → embargoed_at (put_aside z s i) i ≡ true
aside_self most i hi n h =
    ap (λ (l : List Bool). get_or l i false) (puts-aside most hi n h).embargoes ∙ marked-self most hi n

module _
    {z : Sizes}
    (most : Permitted z)
    {Running : View → History → Type 0}
    {Recovering : View → History → (ℕ → Bool) → Row → Type 0}
    (promises : Promises z.clients Running Recovering)
    {i : ℕ}
    (hi : i < z.clients)
    {s : Service}
    {m : Memory}
  where
    pub restart-runs : Forgotten s → Runs z Running s m → Runs z Running (restarted z s i) (λ f b. lost i (m f b))
    restart-runs h r =
        told-runs most promises hi {s = put_aside z s i} (aside_self most i hi r.sized h)
        (aside-runs most promises hi h r)

    pub restart-recovers :
        {t : List Row}
        → Forgotten s
        → Recovers z Recovering s m t
        → Recovers z Recovering (restarted z s i) (λ f b. lost i (m f b)) (map (without i) t)
    restart-recovers h r =
        told-recovers most promises hi {s = put_aside z s i} (aside_self most i hi r.sized h)
        (aside-recovers most promises hi h r)

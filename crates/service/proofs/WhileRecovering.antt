-- While the server recovers, every accepted step keeps the invariant of the whole service, and the end gives back the
-- table, by the promises of the protocol of one file. It leads to the theorem on whole lists of steps. Assumes nothing.
use Prim.Native.Nat.{ℕ, ◌<◌}
use mathlib.Core.Path.{◌≡◌, refl, sym, ap, ◌∙◌, subst, subst⁻¹}
use mathlib.Core.Bool.{Bool, true, false, cond, not, ◌&&◌, ◌||◌}
use mathlib.Core.List.{List}
use lib.ListN.{set, length}
use lib.Seq.{ext_get_or}
use borrow.Author.Tests.{leb-false, lt-ltb, not-false}
use Rattle.records.specs.Record.{is_open}
use Rattle.sizes.specs.declared.sizes.Sizes.{Sizes}
use Rattle.sizes.specs.Sizes.{Permitted, cell}
use Rattle.protocol.specs.declared.client.ClientFile.{ClientFile}
use Rattle.protocol.specs.declared.step.Step.TheVariants.{Read, Write, Crash, Report, End}
use Rattle.protocol.specs.Client.{read_needs_server, write_needs_server}
use Rattle.protocol.specs.Entry.{waits}
use Rattle.protocol.specs.Book.{History, latest, wrote}
use Rattle.protocol.specs.Table.{Row, row_of, seen}
use Rattle.protocol.proofs.View.{View, written_view}
use Rattle.protocol.proofs.Promises.{Promises}
use Rattle.blocks.specs.Stores.{value_read, read_stores}
use Rattle.table.specs.TableStep.{no_entry}
use Rattle.service.specs.declared.service.Service.{Service}
use Rattle.service.specs.Contents.{table_in, entry_at, block_at, reported_at, embargoed_at, client_at, held_at, stores_of, with_stores}
use Rattle.service.specs.Demand3.{Memory, at_block, delays, table_of, NoOpenWaits}
use Rattle.service.specs.Space.{takes_place}
use Rattle.service.proofs.Tests.{conflict, neither_first}
use Rattle.service.proofs.Lists.{count_none}
use Rattle.service.proofs.Views.{In, view_of, heard_of, client_is, held_is, value_is}
use Rattle.service.proofs.BlockSteps.{write_step}
use Rattle.service.proofs.TableSteps.{aside, aside_blank, crash_step, report_step, end_step}
use Rattle.service.proofs.Accepted.{Passed, tests_of, done_of}
use Rattle.service.proofs.Invariant.{row_in, table_length, row_is, Runs, InRecovery, Recovers, after_block}
use Rattle.service.proofs.Invariant.{after_table}
use Rattle.service.proofs.Invariant.{block_here, block_elsewhere}

-- a step that is not cut off in recovery does not need the server
own_step :
    (recovering reported needs : Bool)
    → recovering ≡ true
    → ((reported || needs) && recovering) ≡ false
    → needs ≡ false
own_step true true needs state e = conflict refl e
own_step true false true state e = conflict refl e
own_step true false false state e = refl
own_step false reported needs state e = conflict state refl

-- a read that does not need the server fetches nothing
pub no_fetch :
    (own : ClientFile) (held : Bool) → read_needs_server own held ≡ false → (own.opens.caching && not held) ≡ false
no_fetch own held e = by_flags (is_open own.opens) own.opens.caching held e
  where
    by_flags : (opens caching held : Bool) → not (opens && caching && held) ≡ false → (caching && not held) ≡ false
    by_flags true true true e = refl
    by_flags true true false e = conflict refl e
    by_flags true false held e = refl
    by_flags false caching held e = conflict refl e

pub unfetched :
    (s : Service) (caching : Bool) (i f b : ℕ)
    → (caching && not (held_at s i f b)) ≡ false
    → with_stores s (read_stores caching i f b (stores_of s)) ≡ s
unfetched s caching i f b e =
    ap
    (λ x.
    with_stores s
    (record {
      blocks = s.server.blocks;
      copies = cond x (set s.copies (cell i f b) (block_at s f b)) s.copies;
      held = cond x (set s.held (cell i f b) true) s.held;
      dirty = s.dirty;
    }))
    e

module _
    {z : Sizes}
    (most : Permitted z)
    {Running : View → History → Type 0}
    {Recovering : View → History → (ℕ → Bool) → Row → Type 0}
    (promises : Promises z.clients Running Recovering)
    {s : Service}
    {m : Memory}
    {t : List Row}
    (r : Recovers z Recovering s m t) where
  pub read_kept :
      (i f b : ℕ)
      → embargoed_at s i ≡ false
      → Passed (tests_of z s (Read i f b))
      → (value_read (client_at s i f).opens.caching i f b (stores_of s) ≡ latest (m f b))
      × Recovers z Recovering (done_of z s (Read i f b)).service m t
  read_kept i f b unbarred (client, (file, (block, (_, (cut, _))))) =
      let hi : i < z.clients = leb-false z.clients i client in
      let here : In z s i = record { below = hi; unbarred = unbarred } in
      let hf : f < z.files = leb-false z.files f file in
      let hb : b < z.blocks = leb-false z.blocks b block in
      let v : View = view_of z s f b in
      let needs : Bool = read_needs_server (client_at s i f) (held_at s i f b) in
      let own : needs ≡ false = own_step (table_in s).recovering (reported_at s i) needs r.state cut in
      let shown : needs ≡ read_needs_server (v.client i) (v.held i) =
      λ k. read_needs_server (client_is z s f b here k) (held_is z s f b here k) in
      let none = no_fetch (client_at s i f) (held_at s i f b) own in (
        value_is z s f b here
            ∙ promises.reads_own v (m f b) i (heard_of z s) (row_in z t f) (r.views f b hf hb) hi (sym shown ∙ own),
        subst⁻¹ (λ s'. Recovers z Recovering s' m t) (unfetched s (client_at s i f).opens.caching i f b none) r,
      )

  pub write_kept :
      (i f b v : ℕ)
      → embargoed_at s i ≡ false
      → Passed (tests_of z s (Write i f b v))
      → Recovers z Recovering (done_of z s (Write i f b v)).service (at_block m f b (wrote i v (delays s i f))) t
  write_kept i f b v unbarred (client, (file, (block, (_, (cut, _))))) =
      let hi : i < z.clients = leb-false z.clients i client in
      let shown : In z s i = record { below = hi; unbarred = unbarred } in
      let hf : f < z.files = leb-false z.files f file in
      let hb : b < z.blocks = leb-false z.blocks b block in
      let needs : Bool = write_needs_server (client_at s i f) in
      let takes : Bool = takes_place s (Write i f b v) in
      let own : needs ≡ false =
      neither_first needs takes (own_step (table_in s).recovering (reported_at s i) (needs || takes) r.state cut) in
      let own' = subst (λ c. write_needs_server c ≡ false) (client_is z s f b shown) own in
      let p = write_step most r.sized shown hf hb v in
      let s' : Service = (done_of z s (Write i f b v)).service in
      let noted : History → History = wrote i v (delays s i f) in
      let m' : Memory = at_block m f b noted in
      let same : noted (m f b) ≡ wrote i v ((view_of z s f b).client i).opens.caching (m f b) =
      ap (λ (c : ClientFile). wrote i v c.opens.caching (m f b)) (client_is z s f b shown) in
      let before = r.views f b hf hb in
      let kept = promises.writes_own (view_of z s f b) (m f b) i v (heard_of z s) (row_in z t f) before hi own' in
      let here : Recovering (written_view (view_of z s f b) i v) (m' f b) (heard_of z s) (row_in z t f) =
      subst⁻¹ (λ k. Recovering (written_view (view_of z s f b) i v) k (heard_of z s) (row_in z t f))
      (block_here m f b noted ∙ same) kept in
      let views : InRecovery z Recovering (heard_of z s) t s' m' =
      after_block z (λ g w k. Recovering w k (heard_of z s) (row_in z t g)) r.views p here
      (block_elsewhere m f b noted) in
      record {
        sized = p.sized;
        state = p.recovering ∙ r.state;
        rows = r.rows;
        views = subst⁻¹ (λ reported. InRecovery z Recovering reported t s' m') p.heard views;
      }

  pub crash_kept : Recovers z Recovering (done_of z s Crash).service m t
  crash_kept =
      after_table (crash_step most r.sized) refl r.rows
      (λ f b hf hb.
      promises.crashes_again (view_of z s f b) (m f b) (heard_of z s) (aside most r.sized) (row_in z t f)
      (r.views f b hf hb) (aside_blank most r.sized f b))

  pub report_kept :
      (i : ℕ) → Passed (tests_of z s (Report i)) → Recovers z Recovering (done_of z s (Report i)).service m t
  report_kept i (client, (unbarred, (_, (again, _)))) =
      let hi : i < z.clients = leb-false z.clients i client in
      let here : In z s i = record { below = hi; unbarred = unbarred } in
      let again' : heard_of z s i ≡ false = rw (lt-ltb i z.clients hi, again, unbarred) in
      after_table (report_step most r.sized here) r.state r.rows
      (λ f b hf hb.
      promises.reports (view_of z s f b) (m f b) i (heard_of z s) (row_in z t f) (r.views f b hf hb) hi again')

  -- the service after the end, with the table that was to be given back, and no open waits
  pub end_kept :
      Passed (tests_of z s End)
      → let s' = (done_of z s End).service in
      Runs z Running s' m × (table_of s' ≡ t) × NoOpenWaits s'
  end_kept (_, (missing, _)) =
      let all : (i : ℕ) → i < z.clients → heard_of z s i ≡ true =
      λ i hi.
      rw (
        lt-ltb i z.clients hi,
        not-false (reported_at s i || embargoed_at s i)
            (count_none z.clients (λ j. not (reported_at s j || embargoed_at s j)) missing i hi),
      ) in
      let ended : (f b : ℕ) → f < z.files → b < z.blocks → _ =
      λ f b hf hb. promises.ends (view_of z s f b) (m f b) (heard_of z s) (row_in z t f) (r.views f b hf hb) all in
      let size : length (table_of s) ≡ z.files = table_length most r.sized in
      let row : (f : ℕ) → f < length (table_of s) → row_in z (table_of s) f ≡ row_in z t f =
      λ f h.
      let hf : f < z.files = subst (λ k. f < k) size h in
      row_is most r.sized f hf ∙ (ended f 0 hf most.some_block).1 in
      let quiet : (f : ℕ) → f < z.files → waits z.clients (entry_at s f) ≡ false =
      λ f hf. (ended f 0 hf most.some_block).2 in (
        record { sized = (end_step most r.sized).sized; state = refl; views = λ f b hf hb. (ended f b hf hb).0 },
        ext_get_or (row_of (seen z.clients no_entry)) (table_of s) t (size ∙ sym r.rows) row,
        subst⁻¹ (λ (z : Sizes). (f : ℕ) → f < z.files → waits z.clients (entry_at s f) ≡ false)
            r.sized.sizes quiet,
      )

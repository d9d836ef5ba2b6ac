-- While the server runs, every accepted step keeps the invariant of the whole service, by the promises of the protocol
-- of one file. It leads to the theorem on whole lists of steps. Assumes nothing.
use Prim.Native.Nat.{ℕ, ◌<◌}
use mathlib.Core.Path.{◌≡◌, refl, sym, ap, ◌∙◌, subst, subst⁻¹}
use mathlib.Core.Bool.{Bool, true, false, ◌&&◌}
use lib.Dec.{eqb}
use borrow.Author.Tests.{leb-false, not-false}
use Rattle.records.specs.declared.record.Mode.{Mode}
use Rattle.records.specs.Record.{is_open, count_of}
use Rattle.sizes.specs.declared.sizes.Sizes.{Sizes}
use Rattle.sizes.specs.Sizes.{Permitted}
use Rattle.protocol.specs.declared.client.ClientFile.{ClientFile}
use Rattle.protocol.specs.declared.entry.Entry.{Entry}
use Rattle.protocol.specs.declared.reply.Reply.TheVariants.{Granted}
use Rattle.protocol.specs.declared.step.Step.TheVariants.{Open, Close, Read, Write, Flush, Answer, Crash}
use Rattle.protocol.specs.Entry.{call_to, calls_for, calls_out, grant_of, answered_entry}
use Rattle.protocol.specs.Book.{History, latest, wrote, came}
use Rattle.protocol.specs.Table.{Row, seen}
use Rattle.protocol.proofs.Seen.{call_seen, calls-for-seen}
use Rattle.protocol.proofs.View.{View, written_view, sent_view, crashed_view}
use Rattle.protocol.proofs.Promises.{Promises}
use Rattle.blocks.specs.Stores.{any_dirty, flushed_stores, value_read}
use Rattle.file.specs.FileStep.{FileAfter}
use Rattle.service.specs.declared.service.Service.{Service}
use Rattle.service.specs.Aside.{Forgotten}
use Rattle.service.specs.Contents.{entry_at, embargoed_at, client_at, dirty_at, stores_of, with_stores}
use Rattle.service.specs.Demand3.{Memory, at_block, at_file, delays, table_of}
use Rattle.service.proofs.Tests.{either}
use Rattle.service.proofs.Lists.{count_some}
use Rattle.service.proofs.Views.{In, view_of, client_is, dirty_is, value_is}
use Rattle.service.proofs.FileTurn.{FileStep}
use Rattle.service.proofs.FileSteps.{put, granted_step, waiting_step, closed_step, settled_step}
use Rattle.service.proofs.FileSteps.{out_seen, call_answered_step, last_answered_step}
use Rattle.service.proofs.BlockSteps.{BlockStep, read_step, write_step, send_step}
use Rattle.service.proofs.TableSteps.{aside, aside_blank, crash_step}
use Rattle.service.proofs.Accepted.{Passed, tests_of, done_of}
use Rattle.service.proofs.Invariant.{row_in, table_length, row_is, Runs, Recovers, after_file, after_block}
use Rattle.service.proofs.Invariant.{after_table, waiter_in}
use Rattle.service.proofs.Invariant.{block_here, block_elsewhere, file_here_lem, file_elsewhere}

-- a dirty block that a view shows is one of the file's dirty blocks
pub shows_dirty :
    (z : Sizes) (s : Service) {i : ℕ} (f b : ℕ)
    → In z s i
    → b < z.blocks
    → (view_of z s f b).dirty i ≡ true
    → any_dirty z.blocks i f (stores_of s) ≡ true
shows_dirty z s {i} f b here hb d =
    count_some z.blocks (λ c. dirty_at s i f c) b hb (dirty_is z s f b here ∙ d)

module _
    {z : Sizes}
    (most : Permitted z)
    {Running : View → History → Type 0}
    {Recovering : View → History → (ℕ → Bool) → Row → Type 0}
    (promises : Promises z.clients Running Recovering)
    {s : Service}
    {m : Memory}
    (r : Runs z Running s m) where
  file_changed :
      {s' : Service} {f : ℕ} {w : ℕ → View} {m' : Memory}
      → FileStep z s s' f w
      → ((b : ℕ) → b < z.blocks → Running (w b) (m' f b))
      → ((g b : ℕ) → eqb g f ≡ false → m' g b ≡ m g b)
      → Runs z Running s' m'
  file_changed p k same =
      record {
        sized = p.sized;
        state = p.recovering ∙ r.state;
        views = after_file z (λ f v x. Running v x) r.views p k same;
      }

  file_kept :
      {s' : Service} {f : ℕ} {w : ℕ → View}
      → FileStep z s s' f w
      → ((b : ℕ) → b < z.blocks → Running (w b) (m f b))
      → Runs z Running s' m
  file_kept p k = file_changed p k (λ _ _ _. refl)

  pub open_kept :
      (mode : Mode) (i f : ℕ)
      → Passed (tests_of z s (Open mode i f))
      → Runs z Running (done_of z s (Open mode i f)).service m
  open_kept mode i f (client, (file, (aside, (_, (waits, (full, (spent, _))))))) =
      let n = z.clients in
      let e : Entry = entry_at s f in
      let hi : i < z.clients = leb-false z.clients i client in
      let here : In z s i = record { below = hi; unbarred = aside } in
      let hf : f < z.files = leb-false z.files f file in
      let room : (b : ℕ) → eqb (count_of mode ((view_of z s f b).client i).opens) 255 ≡ false =
      λ b. subst (λ (c : ClientFile). eqb (count_of mode c.opens) 255 ≡ false) (client_is z s f b here) full in
      either (λ (o : FileAfter). Runs z Running (put s f o) m) (eqb (calls_for n e i mode) 0)
      (λ none.
      file_kept (granted_step most r.sized here hf mode (Granted (grant_of n e i mode)))
      (λ b hb.
      promises.opens (view_of z s f b) (m f b) i mode (r.views f b hf hb) hi waits (room b) spent
      (ap (λ x. eqb x 0) (calls-for-seen n e i hi mode) ∙ none)))
      (λ some.
      file_kept (waiting_step most r.sized here hf mode)
      (λ b hb. promises.waits_for (view_of z s f b) (m f b) i mode (r.views f b hf hb) hi waits (room b) spent))

  pub close_kept :
      (mode : Mode) (i f : ℕ)
      → Passed (tests_of z s (Close mode i f))
      → Runs z Running (done_of z s (Close mode i f)).service m
  close_kept mode i f (client, (file, (aside, (_, (waits, (closed, _)))))) =
      let hi : i < z.clients = leb-false z.clients i client in
      let here : In z s i = record { below = hi; unbarred = aside } in
      let hf : f < z.files = leb-false z.files f file in
      let dirty = any_dirty z.blocks i f (stores_of s) in
      file_kept (closed_step most r.sized here hf mode dirty)
      (λ b hb.
      promises.closes (view_of z s f b) (m f b) i mode dirty (r.views f b hf hb) hi waits
      (subst (λ (c : ClientFile). eqb (count_of mode c.opens) 0 ≡ false) (client_is z s f b here) closed)
      (shows_dirty z s f b here hb))

  pub answer_kept :
      Forgotten s
      → (i f : ℕ)
      → Passed (tests_of z s (Answer i f))
      → Runs z Running (done_of z s (Answer i f)).service (at_file m f (came i))
  answer_kept forgotten i f (client, (file, (aside, (_, (called, _))))) =
      let n = z.clients in
      let e : Entry = entry_at s f in
      let hi : i < z.clients = leb-false z.clients i client in
      let shown : In z s i = record { below = hi; unbarred = aside } in
      let hf : f < z.files = leb-false z.files f file in
      let called' : eqb (call_to n (seen n e) i) 0 ≡ false = ap (λ k. eqb k 0) (call_seen n e i hi) ∙ called in
      let out : _ = ap (λ k. eqb k 0) (out_seen n e i hi) in
      let here : (w : View) (b : ℕ) → Running w (came i (m f b)) → Running w (at_file m f (came i) f b) =
      λ w b k. subst⁻¹ (Running w) (file_here_lem m f (came i) b) k in
      either (λ (o : FileAfter). Runs z Running (put s f o) (at_file m f (came i)))
      (eqb (calls_out n (answered_entry e i (call_to n e i))) 0)
      (λ none.
      let granted : (b : ℕ) → b < z.blocks → _ =
      λ b hb. promises.answers_last (view_of z s f b) (m f b) i (r.views f b hf hb) hi called' (out ∙ none) in
      file_changed (last_answered_step most r.sized shown hf (waiter_in r.sized forgotten f hf (granted 0 most.some_block).0))
      (λ b hb. here _ b (granted b hb).1) (file_elsewhere m f (came i)))
      (λ some.
      file_changed (call_answered_step most r.sized shown hf)
      (λ b hb. here _ b (promises.answers (view_of z s f b) (m f b) i (r.views f b hf hb) hi called' (out ∙ some)))
      (file_elsewhere m f (came i)))

  -- ---- read, write and flush

  block_kept :
      {s' : Service} {f b : ℕ} {w : View} {m' : Memory}
      → BlockStep z s s' f b w
      → Running w (m' f b)
      → ((g c : ℕ) → (eqb g f && eqb c b) ≡ false → m' g c ≡ m g c)
      → Runs z Running s' m'
  block_kept p k same =
      record {
        sized = p.sized;
        state = p.recovering ∙ r.state;
        views = after_block z (λ f v x. Running v x) r.views p k same;
      }

  -- what a read gives, and the service after it
  pub read_kept :
      (i f b : ℕ)
      → embargoed_at s i ≡ false
      → Passed (tests_of z s (Read i f b))
      → (value_read (client_at s i f).opens.caching i f b (stores_of s) ≡ latest (m f b))
      × Runs z Running (done_of z s (Read i f b)).service m
  read_kept i f b unbarred (client, (file, (block, (_, (_, (opens, _)))))) =
      let hi : i < z.clients = leb-false z.clients i client in
      let here : In z s i = record { below = hi; unbarred = unbarred } in
      let hf : f < z.files = leb-false z.files f file in
      let hb : b < z.blocks = leb-false z.blocks b block in
      let (value, kept) =
      promises.reads (view_of z s f b) (m f b) i (r.views f b hf hb) hi
      (subst (λ (c : ClientFile). is_open c.opens ≡ true) (client_is z s f b here)
      (not-false (is_open (client_at s i f).opens) opens)) in
      (value_is z s f b here ∙ value, block_kept (read_step most r.sized here hf hb) kept (λ g c e. refl))

  pub write_kept :
      (i f b v : ℕ)
      → embargoed_at s i ≡ false
      → Passed (tests_of z s (Write i f b v))
      → Runs z Running (done_of z s (Write i f b v)).service (at_block m f b (wrote i v (delays s i f)))
  write_kept i f b v unbarred (client, (file, (block, (_, (_, (opens, _)))))) =
      let hi : i < z.clients = leb-false z.clients i client in
      let shown : In z s i = record { below = hi; unbarred = unbarred } in
      let hf : f < z.files = leb-false z.files f file in
      let hb : b < z.blocks = leb-false z.blocks b block in
      let opens' = subst (λ (c : ClientFile). eqb c.opens.writers 0 ≡ false) (client_is z s f b shown) opens in
      let noted : History → History = wrote i v (delays s i f) in
      let same : noted (m f b) ≡ wrote i v ((view_of z s f b).client i).opens.caching (m f b) =
      ap (λ (c : ClientFile). wrote i v c.opens.caching (m f b)) (client_is z s f b shown) in
      let here : Running (written_view (view_of z s f b) i v) (at_block m f b noted f b) =
      subst⁻¹ (Running (written_view (view_of z s f b) i v)) (block_here m f b noted ∙ same)
      (promises.writes (view_of z s f b) (m f b) i v (r.views f b hf hb) hi opens') in
      block_kept (write_step most r.sized shown hf hb v) here (block_elsewhere m f b noted)

  -- a flush first sends its block
  send_kept :
      (i f b : ℕ)
      → Passed (tests_of z s (Flush i f b))
      → Runs z Running (with_stores s (flushed_stores i f b (stores_of s))) (at_block m f b (came i))
  send_kept i f b (client, (file, (block, (aside, (_, (clean, _)))))) =
      let hi : i < z.clients = leb-false z.clients i client in
      let here : In z s i = record { below = hi; unbarred = aside } in
      let hf : f < z.files = leb-false z.files f file in
      let hb : b < z.blocks = leb-false z.blocks b block in
      block_kept (send_step most r.sized here hf hb)
      (subst⁻¹ (Running (sent_view (view_of z s f b) i)) (block_here m f b (came i))
      (promises.sends (view_of z s f b) (m f b) i (r.views f b hf hb) hi
      (sym (dirty_is z s f b here) ∙ not-false (dirty_at s i f b) clean)))
      (block_elsewhere m f b (came i))

  -- ---- crash

  pub crash_kept : Recovers z Recovering (done_of z s Crash).service m (table_of s)
  crash_kept = after_table (crash_step most r.sized) refl (table_length most r.sized) views
    where
      views :
          (f b : ℕ)
          → f < z.files
          → b < z.blocks
          → Recovering (crashed_view z.clients (view_of z s f b)) (m f b) (aside most r.sized) (row_in z (table_of s) f)
      views f b hf hb =
          subst⁻¹ (λ row. Recovering (crashed_view z.clients (view_of z s f b)) (m f b) (aside most r.sized) row)
          (row_is most r.sized f hf)
          (promises.crashes (view_of z s f b) (m f b) (aside most r.sized) (r.views f b hf hb) (aside_blank most r.sized f b))

-- and then both sides are told whether a dirty block is left
pub flush_kept :
    {z : Sizes}
    → Permitted z
    → {Running : View → History → Type 0}
    → {Recovering : View → History → (ℕ → Bool) → Row → Type 0}
    → Promises z.clients Running Recovering
    → {s : Service} {m : Memory}
    → Runs z Running s m
    → (i f b : ℕ)
    → Passed (tests_of z s (Flush i f b))
    → Runs z Running (done_of z s (Flush i f b)).service (at_block m f b (came i))
flush_kept {z} most promises {s} {m} r i f b passed =
    let hi : i < z.clients = leb-false z.clients i passed.0 in
    let here : In z s i = record { below = hi; unbarred = passed.1.1.1.0 } in
    let hf : f < z.files = leb-false z.files f passed.1.0 in
    let s' : Service = with_stores s (flushed_stores i f b (stores_of s)) in
    let sent = send_kept most promises r i f b passed in
    let left = any_dirty z.blocks i f (stores_of s') in
    let there : In z s' i = record { below = hi; unbarred = here.unbarred } in
    file_kept most promises sent (settled_step most sent.sized there hf left)
    (λ c hc.
    promises.settles (view_of z s' f c) (at_block m f b (came i) f c) i left (sent.views f c hf hc) hi
    (shows_dirty z s' f c there hc))

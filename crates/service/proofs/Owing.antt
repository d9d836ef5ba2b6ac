-- Who is in and marked has a dirty block of the file: how steps keep that, and with the invariant of the whole service what it
-- says of the last writer. It leads to the promise that nothing is left behind. Assumes nothing.
use Prim.Native.Nat.{ℕ, ◌<◌}
use mathlib.Core.Path.{◌≡◌, sym, ap, ◌∙◌, subst, subst⁻¹}
use mathlib.Core.Bool.{Bool, true, false, cond, ◌&&◌}
use mathlib.Core.Logic.{⊎_elim}
use mathlib.Core.List.{List}
use lib.Dec.{eqb}
use lib.ListN.{get_or}
use borrow.Author.Tests.{eqb-true, leb-false}
use Rattle.records.specs.declared.record.Mode.{Mode}
use Rattle.sizes.specs.declared.sizes.Sizes.{Sizes}
use Rattle.sizes.specs.Sizes.{Permitted}
use Rattle.protocol.specs.declared.client.ClientFile.{ClientFile}
use Rattle.protocol.specs.declared.entry.Entry.{Entry}
use Rattle.protocol.specs.declared.reply.Reply.TheVariants.{Granted}
use Rattle.protocol.specs.declared.step.Step.TheVariants.{Open, Answer}
use Rattle.protocol.specs.Entry.{call_to, calls_for, calls_out, grant_of, answered_entry}
use Rattle.protocol.specs.Book.{History}
use Rattle.protocol.specs.Table.{Row, seen}
use Rattle.protocol.proofs.Seen.{call_seen, calls-for-seen}
use Rattle.protocol.proofs.View.{View, at, BacksAt, Backs, written_view, closed_view, settled_view}
use Rattle.protocol.proofs.Promises.{Promises}
use Rattle.blocks.specs.Stores.{any_dirty, flushed_stores}
use Rattle.file.specs.FileStep.{FileAfter, closed_file, flushed_file}
use Rattle.service.specs.declared.service.Service.{Service}
use Rattle.service.specs.Aside.{Forgotten}
use Rattle.service.specs.Demand3.{Memory}
use Rattle.service.specs.Contents.{table_in, entry_at, file_at, client_at, dirty_at, stores_of, with_stores, with_file}
use Rattle.service.proofs.Tests.{split, either, both, eqb_same}
use Rattle.service.proofs.Lists.{some_counted}
use Rattle.service.proofs.Views.{Sized, In, view_of, client_is, dirty_is, at_own}
use Rattle.service.proofs.FileTurn.{FileStep}
use Rattle.service.proofs.FileSteps.{put, granted_step, waiting_step, closed_step, settled_step}
use Rattle.service.proofs.FileSteps.{out_seen, call_answered_step, last_answered_step}
use Rattle.service.proofs.BlockSteps.{BlockStep, send_step}
use Rattle.service.proofs.Accepted.{Passed, tests_of, done_of}
use Rattle.service.proofs.Invariant.{Runs, waiter_in}
use Rattle.service.proofs.WhileRunning.{shows_dirty}

-- at a client and a file, and at all of them
abbrev pub OwedAt : Sizes → Service → ℕ → ℕ → Type 0
OwedAt z s i f = (client_at s i f).marked ≡ true → any_dirty z.blocks i f (stores_of s) ≡ true

abbrev pub Owed : Sizes → Service → Type 0
Owed z s = (i f : ℕ) → In z s i → f < z.files → OwedAt z s i f

-- a mark that a view shows
marked_is :
    (z : Sizes) (s : Service) {i : ℕ} (f b : ℕ)
    → In z s i
    → (client_at s i f).marked ≡ ((view_of z s f b).client i).marked
marked_is z s f b here = ap (λ (c : ClientFile). c.marked) (client_is z s f b here)

-- who is in stays so, as long as the embargoes stay
pub in_still : {z : Sizes} (s s' : Service) (i : ℕ) → (table_in s').embargoed ≡ (table_in s).embargoed → In z s' i → In z s i
in_still s s' i same here =
    record {
      below = here.below;
      unbarred = ap (λ (l : List Bool). get_or l i false) (sym same) ∙ here.unbarred;
    }

module _ {z : Sizes} (most : Permitted z) (s s' : Service) where
  -- a client that is marked was so before, and its dirty blocks stay
  pub owed_at :
      {j : ℕ} (g : ℕ)
      → In z s' j
      → In z s j
      → ((b : ℕ) → b < z.blocks → BacksAt j (view_of z s g b) (view_of z s' g b))
      → OwedAt z s j g
      → OwedAt z s' j g
  owed_at {j} g hj' hj backs owed m =
      let shown : (b : ℕ) → ((view_of z s' g b).client j).marked ≡ true = λ b. sym (marked_is z s' g b hj') ∙ m in
      let before = marked_is z s g 0 hj ∙ (backs 0 most.some_block (shown 0)).0 in
      let (b, hb, dirty) = some_counted z.blocks (λ b. dirty_at s j g b) (owed before) in
      shows_dirty z s' g b hj' hb ((backs b hb (shown b)).1 (sym (dirty_is z s g b hj) ∙ dirty))

  -- a step that changes one file, and one that changes one block
  file_backs :
      {f : ℕ} {w : ℕ → View}
      → FileStep z s s' f w
      → ((b : ℕ) → b < z.blocks → Backs (view_of z s f b) (w b))
      → (j g b : ℕ)
      → b < z.blocks
      → BacksAt j (view_of z s g b) (view_of z s' g b)
  file_backs {f} p here j g b hb =
      split (eqb g f)
      (λ e.
      subst⁻¹ (λ g. BacksAt j (view_of z s g b) (view_of z s' g b)) (eqb-true g f e)
      (subst⁻¹ (λ v. BacksAt j (view_of z s f b) v) (p.here b hb) (here b hb j)))
      (λ e. subst⁻¹ (λ v. BacksAt j (view_of z s g b) v) (p.elsewhere g b hb e) (λ m. (m, λ d. d)))

  block_backs :
      {f b : ℕ} {w : View}
      → BlockStep z s s' f b w
      → (j g c : ℕ)
      → (eqb g f ≡ true → BacksAt j (view_of z s f b) w)
      → c < z.blocks
      → BacksAt j (view_of z s g c) (view_of z s' g c)
  block_backs {f} {b} p j g c here hc =
      split (eqb g f && eqb c b)
      (λ e.
      let (file, block) = both (eqb g f) (eqb c b) e in
      subst⁻¹ (λ g. BacksAt j (view_of z s g c) (view_of z s' g c)) (eqb-true g f file)
      (subst⁻¹ (λ c. BacksAt j (view_of z s f c) (view_of z s' f c)) (eqb-true c b block)
      (subst⁻¹ (λ v. BacksAt j (view_of z s f b) v) p.here (here file))))
      (λ e. subst⁻¹ (λ v. BacksAt j (view_of z s g c) v) (p.elsewhere g c hc e) (λ m. (m, λ d. d)))

  pub file_owed :
      {f : ℕ} {w : ℕ → View}
      → FileStep z s s' f w
      → ((b : ℕ) → b < z.blocks → Backs (view_of z s f b) (w b))
      → Owed z s
      → Owed z s'
  file_owed p here owed j g hj hg =
      let before = in_still s s' j p.embargoes hj in
      owed_at g hj before (λ b hb. file_backs p here j g b hb) (owed j g before hg)

  pub block_owed :
      {f b : ℕ} {w : View} → BlockStep z s s' f b w → Backs (view_of z s f b) w → Owed z s → Owed z s'
  block_owed p here owed j g hj hg =
      let before = in_still s s' j p.embargoes hj in
      owed_at g hj before (λ c hc. block_backs p j g c (λ _. here j) hc) (owed j g before hg)

-- a write cleans no block
pub write_backs : (v : View) (i x : ℕ) → Backs v (written_view v i x)
write_backs v i x j m = (m, stays (v.client i).opens.caching)
  where
    stays : (caches : Bool) → v.dirty j ≡ true → at i (cond caches true (v.dirty i)) v.dirty j ≡ true
    stays true d = split (eqb j i) (λ e. rw e) (λ e. rw e d)
    stays false d = at_own v.dirty i j ∙ d

-- ---- a close and a flush

-- The sizes in force are permitted, client i is in, and f is a file.
module _
    {z : Sizes}
    (most : Permitted z)
    {Running : View → History → Type 0}
    {Recovering : View → History → (ℕ → Bool) → Row → Type 0}
    (promises : Promises z.clients Running Recovering)
    {s : Service}
    {i f : ℕ}
    (n : Sized z s)
    (hi : In z s i)
    (hf : f < z.files)
    (owed : Owed z s) where
  pub close_owed :
      (mode : Mode)
      → Owed z (with_file s f (closed_file (file_at s f) mode i (any_dirty z.blocks i f (stores_of s))) (stores_of s))
  close_owed mode j g hj' hg m =
      let hj : In z s j = record { below = hj'.below; unbarred = hj'.unbarred } in
      let dirty = any_dirty z.blocks i f (stores_of s) in
      let s' : Service = with_file s f (closed_file (file_at s f) mode i dirty) (stores_of s) in
      let p = closed_step most n hi hf mode dirty in
      let has : ℕ → ℕ → Type 0 = λ j g. any_dirty z.blocks j g (stores_of s) ≡ true in
      let shown : (v : View) → view_of z s' g 0 ≡ v → (v.client j).marked ≡ true =
      λ v e. subst (λ (v : View). (v.client j).marked ≡ true) e (sym (marked_is z s' g 0 hj') ∙ m) in
      split (eqb g f)
      (λ e.
      let file : g ≡ f = eqb-true g f e in
      let here : view_of z s' g 0 ≡ closed_view (view_of z s g 0) i mode dirty =
      subst⁻¹ (λ g. view_of z s' g 0 ≡ closed_view (view_of z s g 0) i mode dirty) file (p.here 0 most.some_block) in
      ⊎_elim (λ before. owed j g hj hg (marked_is z s g 0 hj ∙ before))
      (λ closer. subst⁻¹ (λ j. has j g) (eqb-true j i closer.0) (subst⁻¹ (λ g. has i g) file closer.1))
      (promises.closes_back (view_of z s g 0) i j mode dirty (shown _ here)))
      (λ e. owed j g hj hg (marked_is z s g 0 hj ∙ shown _ (p.elsewhere g 0 most.some_block e)))

  module _ (b : ℕ) (hb : b < z.blocks) where
    abbrev sent : Service
    sent = with_stores s (flushed_stores i f b (stores_of s))

    abbrev left : Bool
    left = any_dirty z.blocks i f (stores_of sent)

    abbrev flushed : Service
    flushed = with_file sent f (flushed_file (file_at sent f) i left) (stores_of sent)

    settles : FileStep z sent flushed f (λ c. settled_view (view_of z sent f c) i left)
    settles = settled_step most (send_step most n hi hf hb).sized (record { below = hi.below; unbarred = hi.unbarred }) hf left

    -- of the client that flushes: the flag stays only if a dirty block is left
    flusher : OwedAt z flushed i f
    flusher m =
        let shown = subst (λ (v : View). (v.client i).marked ≡ true) (settles.here 0 most.some_block)
        (sym (marked_is z flushed f 0 (record { below = hi.below; unbarred = hi.unbarred })) ∙ m) in
        (promises.settles_back (view_of z sent f 0) i i left shown).1 (eqb_same i)

    -- of every other, and of other files
    others : (j g : ℕ) → In z s j → g < z.files → (eqb g f && eqb j i) ≡ false → OwedAt z flushed j g
    others j g hj hg apart =
        owed_at most s flushed g (record { below = hj.below; unbarred = hj.unbarred }) hj
        (λ c hc m.
        let after = file_backs most sent flushed settles
        (λ b hb j m. ((promises.settles_back (view_of z sent f b) i j left m).0, λ d. d)) j g c hc m in
        let before = block_backs most s sent (send_step most n hi hf hb) j g c
        (λ file.
        let another : eqb j i ≡ false = rw file at apart in
        λ m. (m, λ d. rw another d))
        hc after.0 in
        (before.0, λ d. after.1 (before.1 d)))
        (owed j g hj hg)

    pub flush-owed : Owed z flushed
    flush-owed j g hj hg =
        split (eqb g f && eqb j i)
        (λ e.
        let (file, client) = both (eqb g f) (eqb j i) e in
        subst⁻¹ (λ g. OwedAt z flushed j g) (eqb-true g f file)
        (subst⁻¹ (λ j. OwedAt z flushed j f) (eqb-true j i client) flusher))
        (others j g (record { below = hj.below; unbarred = hj.unbarred }) hg)

-- ---- an open and an answer, which keep it by the promises of a running server

module _
    {z : Sizes}
    (most : Permitted z)
    {Running : View → History → Type 0}
    {Recovering : View → History → (ℕ → Bool) → Row → Type 0}
    (promises : Promises z.clients Running Recovering)
    {s : Service}
    {m : Memory}
    (r : Runs z Running s m)
    (forgotten : Forgotten s)
    (owed : Owed z s) where
  pub open_owed :
      (mode : Mode) (i f : ℕ) → Passed (tests_of z s (Open mode i f)) → Owed z (done_of z s (Open mode i f)).service
  open_owed mode i f (client, (file, (aside, (_, (waits, (full, (spent, _))))))) =
      let n = z.clients in
      let e : Entry = entry_at s f in
      let hi : i < z.clients = leb-false z.clients i client in
      let here : In z s i = record { below = hi; unbarred = aside } in
      let hf : f < z.files = leb-false z.files f file in
      either (λ (o : FileAfter). Owed z (put s f o)) (eqb (calls_for n e i mode) 0)
      (λ none.
      file_owed most s _ (granted_step most r.sized here hf mode (Granted (grant_of n e i mode)))
      (λ b hb.
      promises.opens_back (view_of z s f b) (m f b) i mode (r.views f b hf hb) hi spent
      (ap (λ x. eqb x 0) (calls-for-seen n e i hi mode) ∙ none))
      owed)
      (λ some. file_owed most s _ (waiting_step most r.sized here hf mode) (λ b hb j m. (m, λ d. d)) owed)

  pub answer_owed :
      (i f : ℕ) → Passed (tests_of z s (Answer i f)) → Owed z (done_of z s (Answer i f)).service
  answer_owed i f (client, (file, (aside, (_, (called, _))))) =
      let n = z.clients in
      let e : Entry = entry_at s f in
      let hi : i < z.clients = leb-false z.clients i client in
      let here : In z s i = record { below = hi; unbarred = aside } in
      let hf : f < z.files = leb-false z.files f file in
      let called' : eqb (call_to n (seen n e) i) 0 ≡ false = ap (λ k. eqb k 0) (call_seen n e i hi) ∙ called in
      let out : _ = ap (λ k. eqb k 0) (out_seen n e i hi) in
      either (λ (o : FileAfter). Owed z (put s f o)) (eqb (calls_out n (answered_entry e i (call_to n e i))) 0)
      (λ none.
      let granted = promises.answers_last (view_of z s f 0) (m f 0) i (r.views f 0 hf most.some_block) hi called' (out ∙ none) in
      file_owed most s _ (last_answered_step most r.sized here hf (waiter_in r.sized forgotten f hf granted.0))
      (λ b hb. promises.answers_last_back (view_of z s f b) (m f b) i (r.views f b hf hb) hi called' (out ∙ none)) owed)
      (λ some.
      file_owed most s _ (call_answered_step most r.sized here hf)
      (λ b hb. promises.answers_back (view_of z s f b) (m f b) i (r.views f b hf hb) hi called') owed)

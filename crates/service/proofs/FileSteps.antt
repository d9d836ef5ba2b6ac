-- Open, close, answer and what follows a flush change one file: its view, at each block, as the protocol says, and no
-- other. So does the server where it forgets a client. It leads to the invariant of the whole service. Assumes nothing.
use Prim.Native.Nat.{ℕ, ◌<◌}
use mathlib.Core.Path.{◌≡◌, refl, sym, ap, ◌∙◌, subst, subst⁻¹}
use mathlib.Core.Bool.{Bool, true, false, cond, not}
use lib.Dec.{eqb}
use lib.ListN.{length, length-set}
use lib.Seq.{get_or-set_same, get_or-set_other}
use borrow.Author.Tests.{eqb-false}
use Rattle.records.specs.declared.record.Mode.{Mode}
use Rattle.sizes.specs.declared.sizes.Sizes.{Sizes}
use Rattle.sizes.specs.Sizes.{Permitted}
use Rattle.decision.specs.Callback.{writes_back, invalidates, asks_nothing}
use Rattle.sizes.proofs.InForce.{file_fits}
use Rattle.protocol.specs.declared.client.ClientFile.{ClientFile}
use Rattle.protocol.specs.declared.entry.Entry.{Entry}
use Rattle.protocol.specs.declared.reply.Grant.{Grant}
use Rattle.protocol.specs.declared.reply.Reply.{Reply}
use Rattle.protocol.specs.declared.reply.Reply.TheVariants.{Answered, AnsweredGrant, Done}
use Rattle.protocol.specs.Entry.{waits, call_to, calls_out, waiting_entry, grant_of, granted_entry, closed_entry}
use Rattle.protocol.specs.Entry.{flushed_entry, answered_entry, forgotten_entry}
use Rattle.protocol.specs.Client.{granted_client, keeps_blocks, closed_client, flushed_client, answered_client, no_client}
use Rattle.protocol.proofs.Seen.{call_seen, calls_out_seen, grant-seen, waiting-seen, granted-seen, closed-seen}
use Rattle.protocol.proofs.Seen.{answered-seen, forgotten-seen}
use Rattle.protocol.proofs.Invariant.Answer.{called_waits}
use Rattle.protocol.specs.Table.{seen}
use Rattle.protocol.proofs.View.{View, with_entry, waiting_view, granted_view, closed_view, settled_view, answered_view}
use Rattle.protocol.proofs.View.{call_answered_view, waiter_granted_view, restarted_view}
use Rattle.table.specs.TableStep.{no_entry}
use Rattle.blocks.specs.Stores.{sent_blocks}
use Rattle.protocol.specs.declared.shared.SharedFile.{SharedFile}
use Rattle.file.specs.FileStep.{FileAfter, leaving, granted, closed_file, flushed_file, answered, waiter_granted}
use Rattle.file.specs.FileStep.{granted_if_last, with_entry as file_with, after_forgetting, after_dropping}
use Rattle.service.specs.Embargo.{forgotten_on, dropped_on}
use Rattle.service.specs.declared.service.Service.{Service}
use Rattle.service.specs.Contents.{table_in, entry_at, embargoed_at, sides_at, client_at, file_at, stores_of, with_file}
use Rattle.service.proofs.Tests.{cond_not}
use Rattle.service.proofs.Views.{Sized, In, is_out, view_of, client_is, same_view, at_own}
use Rattle.service.proofs.Blank.{blank, blank_restarted}
use Rattle.service.proofs.OneFile.{stands, twice, only_entry, same_sides}
use Rattle.service.proofs.FileTurn.{FileStep, Turn, turned_view, turned_step, hidden_step, as_view, then_step}

-- the calls that are out once client i has answered its own: those of the entry are those of the seen part
pub out_seen :
    (n : ℕ) (e : Entry) (i : ℕ)
    → i < n
    → calls_out n (answered_entry (seen n e) i (call_to n (seen n e) i)) ≡ calls_out n (answered_entry e i (call_to n e i))
out_seen n e i below =
    ap (λ k. calls_out n (answered_entry (seen n e) i k)) (call_seen n e i below)
    ∙ ap (calls_out n) (sym (answered-seen n e i below (call_to n e i)))
    ∙ calls_out_seen n (answered_entry e i (call_to n e i))

-- what a step on file f leaves, in its place
abbrev pub put : Service → ℕ → FileAfter → Service
put s f o = with_file s f o.file o.stores

-- what client i's answer of the callback that it has sends and leaves
abbrev call_sent : Sizes → Service → ℕ → ℕ → ℕ
call_sent z s i f = sent_blocks z.blocks (call_to z.clients (entry_at s f) i) i f (stores_of s)

abbrev pub call_answered : Sizes → Service → ℕ → ℕ → FileAfter
call_answered z s i f = answered z f (file_at s f) (stores_of s) i (call_to z.clients (entry_at s f) i)

module _
    {z : Sizes}
    (most : Permitted z)
    {s : Service}
    {i f : ℕ}
    (n : Sized z s)
    (here : In z s i)
    (hf : f < z.files) where
  hi : i < z.clients
  hi = here.below

  pub granted_step :
      (mode : Mode) (reply : Reply)
      → let g = grant_of z.clients (entry_at s f) i mode in
      FileStep z s (put s f (granted z f (file_at s f) (stores_of s) i mode g reply)) f
      (λ b. granted_view z.clients (view_of z s f b) i mode)
  granted_step mode reply =
      let m = z.clients in
      let e = entry_at s f in
      let turn : Grant → ClientFile → Turn =
      λ g own.
      record {
        entry = granted_entry m e i mode g;
        own = granted_client mode g own;
        keep = keeps_blocks mode g own;
        keep_dirty = keeps_blocks mode g own;
        send = false;
      } in
      as_view (turned_step most n here hf (turn (grant_of m e i mode) (client_at s i f)))
      (λ b _ k.
      turned_view true i (granted-seen m e i hi mode k)
      (turn (sym (grant-seen m e i hi mode) k) (client_is z s f b here k)) (view_of z s f b) (view_of z s f b))

  pub closed_step :
      (mode : Mode) (dirty : Bool)
      → FileStep z s (with_file s f (closed_file (file_at s f) mode i dirty) (stores_of s)) f
      (λ b. closed_view (view_of z s f b) i mode dirty)
  closed_step mode dirty =
      let change : Turn =
      record {
        entry = closed_entry (entry_at s f) i mode dirty;
        own = closed_client mode dirty (client_at s i f);
        keep = true;
        keep_dirty = true;
        send = false;
      } in
      as_view (turned_step most n here hf change)
      (λ b _.
      let v = view_of z s f b in
      same_view (closed-seen z.clients (entry_at s f) i hi mode dirty) refl
      (λ j. ap (λ own. cond (eqb j i) (closed_client mode dirty own) (v.client j)) (client_is z s f b here))
      (at_own v.copy i) (at_own v.held i) (at_own v.dirty i))

  -- the second part of a flush: both sides are told whether a dirty block is left
  pub settled_step :
      (left : Bool)
      → FileStep z s (with_file s f (flushed_file (file_at s f) i left) (stores_of s)) f
      (λ b. settled_view (view_of z s f b) i left)
  settled_step left =
      let change : Turn =
      record {
        entry = flushed_entry (entry_at s f) i left;
        own = flushed_client left (client_at s i f);
        keep = true;
        keep_dirty = true;
        send = false;
      } in
      as_view (turned_step most n here hf change)
      (λ b _.
      let v = view_of z s f b in
      same_view refl refl
      (λ j. ap (λ own. cond (eqb j i) (flushed_client left own) (v.client j)) (client_is z s f b here))
      (at_own v.copy i) (at_own v.held i) (at_own v.dirty i))

  pub answered_step :
      (kind : ℕ)
      → FileStep z s (put s f (answered z f (file_at s f) (stores_of s) i kind)) f
      (λ b. answered_view (view_of z s f b) i kind)
  answered_step kind =
      let change : Turn =
      record {
        entry = answered_entry (entry_at s f) i kind;
        own = answered_client kind (client_at s i f);
        keep = not (invalidates kind);
        keep_dirty = false;
        send = writes_back kind;
      } in
      as_view (turned_step most n here hf change)
      (λ b _.
      let v = view_of z s f b in
      same_view (answered-seen z.clients (entry_at s f) i hi kind) refl
      (λ j. ap (λ own. cond (eqb j i) (answered_client kind own) (v.client j)) (client_is z s f b here))
      (λ j. ap (λ x. cond (eqb j i) x (v.copy j)) (cond_not (invalidates kind) (v.copy i) 0))
      (λ j. ap (λ x. cond (eqb j i) x (v.held j)) (cond_not (invalidates kind) (v.held i) false))
      (λ j. refl))

  -- the clients' sides stay as they are
  pub waiting_step :
      (mode : Mode)
      → let e = waiting_entry z.clients (entry_at s f) i mode in
      FileStep z s (with_file s f (record { entry = e; sides = sides_at s f }) (stores_of s)) f
      (λ b. waiting_view z.clients (view_of z s f b) i mode)
  waiting_step mode =
      let e : Entry = waiting_entry z.clients (entry_at s f) i mode in
      let change : Turn =
      record { entry = e; own = client_at s i f; keep = true; keep_dirty = true; send = false } in
      let w : ℕ → View = λ b. waiting_view z.clients (view_of z s f b) i mode in
      subst (λ x. FileStep z s (with_file s f (record { entry = e; sides = x }) (stores_of s)) f w)
      (same_sides (sides_at s f) i)
      (as_view (turned_step most n here hf change)
      (λ b _.
      let v = view_of z s f b in
      same_view (waiting-seen z.clients (entry_at s f) i hi mode) refl
      (λ j. ap (λ own. cond (eqb j i) own (v.client j)) (client_is z s f b here) ∙ at_own v.client i j)
      (at_own v.copy i) (at_own v.held i) (at_own v.dirty i)))

  pub call_answered_step :
      FileStep z s (put s f (call_answered z s i f)) f (λ b. call_answered_view z.clients (view_of z s f b) i)
  call_answered_step =
      as_view (answered_step (call_to z.clients (entry_at s f) i))
      (λ b _. ap (answered_view (view_of z s f b) i) (sym (call_seen z.clients (entry_at s f) i hi)))

-- and then the open that waits is granted
pub then_granted :
    {z : Sizes}
    → Permitted z
    → {s : Service} {f : ℕ} {v : ℕ → View}
    → Sized z s
    → f < z.files
    → (sent : ℕ) (o : FileAfter)
    → FileStep z s (put s f o) f v
    → In z s o.file.entry.waiter
    → FileStep z s (put s f (waiter_granted z f sent o.file o.stores)) f (λ b. waiter_granted_view z.clients (v b))
then_granted {z} most {s} {f} {v} n hf sent o p hw =
    let m = z.clients in
    let s' : Service = put s f o in
    let is : file_at s' f ≡ o.file = stands o.file o.stores n (file_fits most hf) in
    let waiter : (entry_at s' f).waiter ≡ o.file.entry.waiter = ap (λ (y : SharedFile). y.entry.waiter) is in
    let w : ℕ = (entry_at s' f).waiter in
    let e : Entry = entry_at s' f in
    let there : In z s' w = record { below = rw waiter hw.below; unbarred = rw waiter hw.unbarred } in
    let q = granted_step most {s = s'} {i = w} p.sized there hf e.mode
    (AnsweredGrant sent w (grant_of m e w e.mode)) in
    let r : FileStep z s (put s' f (waiter_granted z f sent (file_at s' f) (stores_of s'))) f _ =
    then_step p (as_view q (λ b hb. ap (waiter_granted_view m) (p.here b hb))) in
    let y : FileAfter = waiter_granted z f sent o.file o.stores in
    subst (λ s''. FileStep z s s'' f (λ b. waiter_granted_view m (v b)))
    (ap (λ x. put s' f (waiter_granted z f sent x o.stores)) is ∙ twice s f o.file y.file o.stores y.stores)
    r

pub last_answered_step :
    {z : Sizes}
    → Permitted z
    → {s : Service} {i f : ℕ}
    → Sized z s
    → In z s i
    → f < z.files
    → In z s (entry_at s f).waiter
    → let o = call_answered z s i f in
    FileStep z s (put s f (waiter_granted z f (call_sent z s i f) o.file o.stores)) f
    (λ b. waiter_granted_view z.clients (call_answered_view z.clients (view_of z s f b) i))
last_answered_step {z} most {s} {i} {f} n here hf hw =
    then_granted most n hf (call_sent z s i f) (call_answered z s i f) (call_answered_step most n here hf) hw

-- ---- the server forgets client i, which is under embargo

module _
    {z : Sizes}
    (most : Permitted z)
    {s : Service}
    (i : ℕ)
    {f : ℕ}
    (n : Sized z s)
    (hi : i < z.clients)
    (hf : f < z.files) where
  abbrev m : ℕ
  m = z.clients

  -- the entry without it, and its call
  abbrev e : Entry
  e = forgotten_entry m (entry_at s f) i

  abbrev kind : ℕ
  kind = call_to m e i

  -- another entry, and the clients' sides as they are
  entered_step :
      (x : Entry)
      → FileStep z s (put s f (leaving (file_with (file_at s f) x) (stores_of s) Done)) f
      (λ b. with_entry (view_of z s f b) (seen m x))
  entered_step x =
      subst⁻¹ (λ s'. FileStep z s s' f (λ b. with_entry (view_of z s f b) (seen m x))) (only_entry s f x)
      (record {
        sized =
            record {
              sizes = n.sizes;
              entries = length-set (table_in s).files f x ∙ n.entries;
              words = n.words;
              reports = n.reports;
              embargoes = n.embargoes;
              files = n.files;
              sides = n.sides;
              copies = n.copies;
              held = n.held;
              dirty = n.dirty;
            };
        recovering = refl;
        reports = refl;
        embargoes = refl;
        here = λ b hb.
            ap (λ y. with_entry (view_of z s f b) (seen m y)) (get_or-set_same (table_in s).files f x no_entry room);
        elsewhere = λ g b hb q.
            ap (λ y. with_entry (view_of z s g b) (seen m y))
            (get_or-set_other (table_in s).files f g x no_entry (eqb-false g f q));
      })
    where
      room : f < length (table_in s).files
      room = rw n.entries (file_fits most hf)

  -- what the view then shows of the entry
  seen_forgotten : seen m e ≡ forgotten_entry m (seen m (entry_at s f)) i
  seen_forgotten = forgotten-seen m (entry_at s f) i hi

  module _ (waiter : waits m e ≡ true → In z s e.waiter) where
    abbrev counted : FileAfter
    counted = leaving (file_with (file_at s f) (answered_entry e i kind)) (stores_of s) (Answered 0)

    abbrev w : ℕ → View
    w b = with_entry (view_of z s f b) (seen m (answered_entry e i kind))

    by_last :
        (t : Bool)
        → eqb kind 0 ≡ false
        → FileStep z s (put s f (cond t (waiter_granted z f 0 counted.file counted.stores) counted)) f
        (λ b. cond t (waiter_granted_view m (w b)) (w b))
    by_last true called =
        then_granted most n hf 0 counted (entered_step (answered_entry e i kind)) (waiter (called_waits m e i called))
    by_last false called = entered_step (answered_entry e i kind)

    by_call :
        (t : Bool)
        → asks_nothing kind ≡ t
        → FileStep z s
        (put s f (cond t (leaving (file_with (file_at s f) e) (stores_of s) Done) (granted_if_last z f 0 counted))) f
        (λ b.
        cond t (with_entry (view_of z s f b) (seen m e))
        (cond (eqb (calls_out m (answered_entry e i kind)) 0) (waiter_granted_view m (w b)) (w b)))
    by_call true is = entered_step e
    by_call false is = by_last (eqb (calls_out m (answered_entry e i kind)) 0) is

    pub forget-step :
        embargoed_at s i ≡ true
        → FileStep z s (forgotten_on z i s f) f (λ b. restarted_view m (view_of z s f b) i)
    unfolding after_forgetting
    forget-step out =
        as_view (by_call (asks_nothing kind) refl)
        (λ b hb.
        let v = view_of z s f b in
        let e' = forgotten_entry m v.entry i in
        let kind-is : kind ≡ call_to m e' i = sym (call_seen m e i hi) ∙ ap (λ x. call_to m x i) seen_forgotten in
        let answered-is : seen m (answered_entry e i kind) ≡ answered_entry e' i (call_to m e' i) =
        answered-seen m e i hi kind ∙ (λ k. answered_entry (seen_forgotten k) i (kind-is k)) in
        let out-is : calls_out m (answered_entry e i kind) ≡ calls_out m (answered_entry e' i (call_to m e' i)) =
        sym (calls_out_seen m (answered_entry e i kind)) ∙ ap (calls_out m) answered-is in
        (λ k.
        let w = with_entry v (answered-is k) in
        cond (asks_nothing (kind-is k)) (with_entry v (seen_forgotten k))
        (cond (eqb (out-is k) 0) (waiter_granted_view m w) w))
        ∙ sym (blank_restarted m v i (blank z s f b i (is_out z s i out))))

-- ---- and that client drops what it has: nobody sees it

pub drop_step :
    {z : Sizes}
    → Permitted z
    → {s : Service} (i : ℕ) {f : ℕ}
    → Sized z s
    → i < z.clients
    → f < z.files
    → embargoed_at s i ≡ true
    → FileStep z s (dropped_on z i s f) f (λ b. view_of z s f b)
unfolding after_dropping
drop_step most i n hi hf out = hidden_step most i n hi hf out no_client false false

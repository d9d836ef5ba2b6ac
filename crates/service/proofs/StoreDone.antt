-- Each accepted step keeps the invariant of the store: the tests that it has passed and what it leaves are what its
-- class must show. It leads to every list of steps. Assumes nothing.
use Prim.Native.Nat.{ℕ, ◌+◌, ◌≤◌, ◌<◌}
use native.Mathlib.Omega.{arith}
use mathlib.Core.Path.{◌≡◌, refl, ap, ◌∙◌, subst⁻¹}
use mathlib.Core.Bool.{Bool, true, false, not, ◌&&◌, ◌||◌}
use mathlib.Core.List.{List}
use lib.Dec.{eqb, ltb}
use borrow.Author.Tests.{eqb-false, leb-false, ltb-true, not-false}
use Rattle.records.specs.declared.record.Mode.{Mode}
use Rattle.sizes.specs.declared.sizes.Sizes.{Sizes}
use Rattle.sizes.specs.Sizes.{in_force, Permitted, first_cell, first_place}
use Rattle.sizes.proofs.InForce.{in_force_permitted}
use Rattle.decision.specs.Callback.{writes_back, asks_nothing}
use Rattle.protocol.specs.declared.entry.Entry.{Entry}
use Rattle.protocol.specs.declared.reply.Grant.{Grant}
use Rattle.protocol.specs.declared.shared.SharedFile.{SharedFile}
use Rattle.protocol.specs.declared.step.Step.{Step}
use Rattle.protocol.specs.declared.step.Step.TheVariants.{Open, Close, Read, Write, Flush, Answer, Crash, Report, End}
use Rattle.protocol.specs.declared.step.Step.TheVariants.{Restart, Embargo, Lift}
use Rattle.protocol.specs.Client.{side_of, keeps_blocks, write_needs_server, sent}
use Rattle.protocol.specs.Entry.{waits, call_to, calls_for, calls_out, grant_of}
use Rattle.file.specs.FileStep.{FileAfter, after_open, answered, after_answer}
use Rattle.service.specs.declared.service.Service.{Service}
use Rattle.service.specs.Contents.{sizes_of, table_in, entry_at, reported_at, embargoed_at, client_at, dirty_at, file_at}
use Rattle.service.specs.Contents.{stores_of, used_at, free_of}
use Rattle.service.specs.Embargo.{marked, dropped_below, put_aside, grants_aside, told, restarted}
use Rattle.service.specs.Space.{dirty_among, is_counted, counted_on, counted_in, is_within, is_known, takes_place}
use Rattle.service.specs.Space.{is_full, used_after, recounted, spaced}
use Rattle.service.proofs.Tests.{split, either, conflict, unless, and_false}
use Rattle.service.proofs.Accepted.{Passed, tests_of, done_of, answering_service}
use Rattle.service.proofs.Clearing.{stored_clear}
use Rattle.service.proofs.Committed.{neither, dirty_counted}
use Rattle.service.proofs.StoreKept.{KeptIn, Kept, known_within, running_makes, all_kept, crash_kept}
use Rattle.service.proofs.StoreSteps.{Drops, drops_none, drops_twice, drops_kept}
use Rattle.service.proofs.StoreSteps.{drop_kept, flush_kept, answer_kept}
use Rattle.service.proofs.StoreWrites.{write_kept}
use Rattle.service.proofs.StoreAside.{Sheds, forgotten_sheds, dropped_sheds}
use Rattle.service.proofs.StoreAside.{aside_shrinks, told_shrinks, restart_shrinks}

-- ---- steps on a file

module _ (z : Sizes) (most : Permitted z) (s : Service) where
  -- blocks and copies that lose flags of dirty blocks of file f, with these blocks
  abbrev Leaves : ℕ → List ℕ → FileAfter → Type 0
  Leaves f blocks o = (o.stores.blocks ≡ blocks) × Drops z f s.dirty o.stores.dirty

  open_leaves :
      (m : Mode) (i f : ℕ)
      → i < z.clients
      → Leaves f s.server.blocks (after_open z (file_at s f) (stores_of s) m i f)
  open_leaves m i f hi =
      let g : Grant = grant_of z.clients (entry_at s f) i m in
      either (Leaves f s.server.blocks) (eqb (calls_for z.clients (entry_at s f) i m) 0)
      (λ none. (refl, drops_kept most (keeps_blocks m g (client_at s i f)) i f s.dirty hi))
      (λ some. (refl, drops_none z f s.dirty))

  -- where a client is called an open waits
  called_waits : (e : Entry) (i : ℕ) → asks_nothing (call_to z.clients e i) ≡ false → e.waiter < z.clients
  called_waits e i asks =
      split (waits z.clients e)
      (ltb-true e.waiter z.clients)
      (λ none. conflict (ap asks_nothing (unless _ 0 none)) asks)

  answer_leaves :
      (i f : ℕ)
      → i < z.clients
      → asks_nothing (call_to z.clients (entry_at s f) i) ≡ false
      → Leaves f
      (sent z.blocks (writes_back (call_to z.clients (entry_at s f) i)) s.dirty s.copies (first_cell i f)
      (first_place f) s.server.blocks)
      (after_answer z (file_at s f) (stores_of s) i f)
  answer_leaves i f hi asks =
      let kind : ℕ = call_to z.clients (entry_at s f) i in
      let x : SharedFile = (answered z f (file_at s f) (stores_of s) i kind).file in
      let e : Entry = x.entry in
      let keeps : Bool =
      keeps_blocks e.mode (grant_of z.clients e e.waiter e.mode) (side_of x.sides e.waiter) in
      let sends : List ℕ =
      sent z.blocks (writes_back kind) s.dirty s.copies (first_cell i f) (first_place f) s.server.blocks in
      either (Leaves f sends) (eqb (calls_out z.clients e) 0)
      (λ last. (
        refl,
        drops_twice z f s.dirty _ _ (drops_kept most false i f s.dirty hi)
            (drops_kept most keeps e.waiter f _ (called_waits (entry_at s f) i asks)),
      ))
      (λ more. (refl, drops_kept most false i f s.dirty hi))

-- ---- a write

module _ (s : Service) (i f b v : ℕ) (p : Passed (tests_of (sizes_of s) s (Write i f b v))) where
  abbrev takes : Bool
  takes = takes_place s (Write i f b v)

  -- under embargo it does not need the server
  out_caches : is_within s i ≡ false → (client_at s i f).opens.caching ≡ true
  out_caches out =
      caches (ltb 0 (client_at s i f).opens.writers) (client_at s i f).opens.caching takes (embargoed_at s i)
      (not-false (embargoed_at s i) out) p.1.1.1.0
    where
      caches :
          (writers caching takes out : Bool)
          → out ≡ true
          → ((not (writers && caching) || takes) && out) ≡ false
          → caching ≡ true
      caches true true takes out is e = refl
      caches true false takes out is e = conflict is e
      caches false caching takes out is e = conflict is e

  -- a block that is not counted takes a place, and there is one
  finds_room :
      Kept s
      → is_within s i ≡ true
      → i < (sizes_of s).clients
      → is_counted (sizes_of s).clients (is_within s) s.server.used s.dirty f b ≡ false
      → counted_in (sizes_of s) (is_within s) s.server.used s.dirty + 1 ≤ (sizes_of s).store
  finds_room h w hi new =
      let taken : takes ≡ true = new-takes in
      let runs : (table_in s).recovering ≡ false =
      running (reported_at s i) (write_needs_server (client_at s i f)) takes (table_in s).recovering taken
      p.1.1.1.1.0 in
      let some : is_full s ≡ false = left takes (is_full s) taken p.1.1.1.1.1.1.0 in
      let free : free_of s ≡ 0 → ⊥ = eqb-false (free_of s) 0 some in
      omega (arith, running_makes s h runs, free)
    where
      takes_one : (u m d : Bool) → u ≡ false → m ≡ false → d ≡ false → not (u || (not u && m) || d) ≡ true
      takes_one u m d nu nm nd = rw (nu, nm, nd)

      new-takes : takes ≡ true
      new-takes =
          let among : Bool = dirty_among (sizes_of s).clients (is_within s) s.dirty f b in
          let (unused, clean) = neither (used_at s f b) among new in
          takes_one (used_at s f b) among (dirty_at s i f b) unused clean
          (split (dirty_at s i f b)
          (λ d.
          conflict (dirty_counted (sizes_of s).clients (is_within s) s.server.used s.dirty f b i hi w d) new)
          (λ d. d))

      running :
          (reported needs takes recovering : Bool)
          → takes ≡ true
          → ((reported || (needs || takes)) && recovering) ≡ false
          → recovering ≡ false
      running true needs takes recovering is e = e
      running false true takes recovering is e = e
      running false false takes recovering is e = rw is at e

      left : (takes full : Bool) → takes ≡ true → (takes && full) ≡ false → full ≡ false
      left takes full is e = rw is at e

-- ---- an accepted step

pub accepted_kept :
    (s : Service) (x : Step)
    → Kept s
    → Passed (tests_of (sizes_of s) s x)
    → Kept (spaced s x false (done_of (sizes_of s) s x).service)
unfolding spaced
accepted_kept s (Open m i f) h (client, (file, _)) =
    let z : Sizes = sizes_of s in
    let most = in_force_permitted s.sizes in
    let o : FileAfter = after_open z (file_at s f) (stores_of s) m i f in
    let (stay, drops) = open_leaves z most s m i f (leb-false z.clients i client) in
    drop_kept most (known_within s) h f o.stores.blocks o.stores.dirty (leb-false z.files f file) stay drops
accepted_kept s (Close m i f) h (client, (file, _)) =
    drop_kept (in_force_permitted s.sizes) (known_within s) h f s.server.blocks s.dirty
    (leb-false (sizes_of s).files f file) refl (drops_none (sizes_of s) f s.dirty)
accepted_kept s (Read i f b) h (client, (file, _)) =
    drop_kept (in_force_permitted s.sizes) (known_within s) h f s.server.blocks s.dirty
    (leb-false (sizes_of s).files f file) refl (drops_none (sizes_of s) f s.dirty)
accepted_kept s (Write i f b v) h p =
    let z : Sizes = sizes_of s in
    let hi : i < z.clients = leb-false z.clients i p.0 in
    write_kept (in_force_permitted s.sizes) (known_within s) h i f b v hi (leb-false z.files f p.1.0)
    (leb-false z.blocks b p.1.1.0) (client_at s i f).opens.caching (out_caches s i f b v p)
    (λ w new. finds_room s i f b v p h w hi new)
accepted_kept s (Flush i f b) h (client, (file, (block, (aside, (_, (clean, _)))))) =
    let z : Sizes = sizes_of s in
    flush_kept (in_force_permitted s.sizes) (known_within s) h i f b _ (leb-false z.clients i client)
    (leb-false z.files f file) (leb-false z.blocks b block) (ap not aside) (not-false (dirty_at s i f b) clean)
accepted_kept s (Answer i f) h (client, (file, (aside, (_, (asks, _))))) =
    let z : Sizes = sizes_of s in
    let most = in_force_permitted s.sizes in
    let hi : i < z.clients = leb-false z.clients i client in
    let hf : f < z.files = leb-false z.files f file in
    let o : FileAfter = after_answer z (file_at s f) (stores_of s) i f in
    let (came, drops) = answer_leaves z most s i f hi asks in
    subst⁻¹
    (λ (blocks : List ℕ).
    KeptIn z (is_within s) (is_known s) (used_after s (Answer i f))
    (recounted z.store s.server.free (counted_on z (is_known s) s.server.used s.dirty f)
    (counted_on z (is_known s) (used_after s (Answer i f)) o.stores.dirty f))
    blocks o.stores.dirty)
    came
    (answer_kept most (known_within s) h i f (writes_back (call_to z.clients (entry_at s f) i)) s.copies hi hf
    o.stores.dirty (ap not aside) drops)
accepted_kept s Crash h p =
    crash_kept h
    (λ i hi.
    ap (λ t. is_within s i && t) (stored_clear (sizes_of s).clients (λ k. k) (table_in s).reported i hi)
    ∙ and_false (is_within s i))
accepted_kept s (Report i) h p =
    all_kept h (known_within (done_of (sizes_of s) s (Report i)).service) refl refl (λ f b hf hb e. e)
accepted_kept s End h p = all_kept h (known_within (done_of (sizes_of s) s End).service) refl refl (λ f b hf hb e. e)
accepted_kept s (Restart i) h p =
    let z : Sizes = sizes_of s in
    let t : Service = put_aside z s i in
    let first : Sheds (marked s i) t = forgotten_sheds z i z.files (marked s i) in
    let second : Sheds t (dropped_below z i z.files t) = dropped_sheds z i z.files t in
    all_kept h (known_within (restarted z s i)) (ap in_force (second.sizes ∙ first.sizes))
    (second.stores.blocks ∙ first.stores.blocks) (restart_shrinks z s i s.server.used)
accepted_kept s (Embargo i f) h p =
    let z : Sizes = sizes_of s in
    let sheds : Sheds (marked s i) (put_aside z s i) = forgotten_sheds z i z.files (marked s i) in
    subst⁻¹ (λ (t : Service). Kept (spaced s (Embargo i f) false t))
    (answering_service (put_aside z s i) (grants_aside z s i))
    (all_kept h (known_within (put_aside z s i)) (ap in_force sheds.sizes) sheds.stores.blocks
    (aside_shrinks z s i s.server.used))
accepted_kept s (Lift i) h p =
    let z : Sizes = sizes_of s in
    let sheds : Sheds s (dropped_below z i z.files s) = dropped_sheds z i z.files s in
    all_kept h (known_within (told z s i)) (ap in_force sheds.sizes) sheds.stores.blocks
    (told_shrinks z s i s.server.used)

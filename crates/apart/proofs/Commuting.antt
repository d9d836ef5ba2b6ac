-- Two steps on different files give the same in either order: a step on a file looks at that file alone, and leaves all
-- others. Assumes nothing.
use Prim.Native.Nat.{ℕ, ◌<◌}
use mathlib.Core.Path.{◌≡◌, refl, sym, ap, subst, ◌∙◌}
use mathlib.Core.Bool.{Bool, true, false, not, ◌&&◌, true≢false}
use mathlib.Core.List.{List}
use lib.Dec.{eqb}
use borrow.Author.Tests.{eq-eqb, ne_eqb, eqb-false}
use Rattle.sizes.specs.declared.sizes.Sizes.{Sizes}
use Rattle.sizes.specs.Sizes.{max_clients, max_blocks, at_most, place, in_force}
use Rattle.sizes.proofs.Choosing.{split, when, unless, and_left, and_right}
use Rattle.sizes.proofs.InForce.{in_force_permitted}
use Rattle.protocol.specs.declared.client.ClientFile.{ClientFile}
use Rattle.protocol.specs.declared.client.Sides.{Sides}
use Rattle.protocol.specs.declared.entry.Entry.{Entry}
use Rattle.protocol.specs.declared.shared.SharedFile.{SharedFile}
use Rattle.protocol.specs.declared.step.Step.{Step}
use Rattle.protocol.specs.declared.step.Step.TheVariants.{Open, Close, Read, Write, Flush, Answer, Crash, Report, End}
use Rattle.protocol.specs.declared.step.Step.TheVariants.{Restart, Embargo, Lift}
use Rattle.protocol.specs.Client.{side_of}
use Rattle.protocol.specs.Reply.{is_refused, no_calls, no_grants}
use Rattle.protocol.specs.Step.{class_of, OnFile, OnBlock, client_of, file_of}
use Rattle.blocks.specs.declared.stores.Stores.{Stores}
use Rattle.access.specs.BlockStep.{BlockAfter, block_step}
use Rattle.file.specs.FileStep.{FileAfter, file_step}
use Rattle.table.specs.TableStep.{is_reported, is_embargoed}
use Rattle.service.specs.declared.service.Service.{Service}
use Rattle.service.specs.declared.outcome.Outcome.{Outcome}
use Rattle.service.specs.Contents.{sizes_of, table_in, file_at, client_at, stores_of, embargoed_at, reported_at, with_file, with_stores, with_space}
use Rattle.service.specs.Step.{moved, with_store, step_of, file_outcome, block_outcome}
use Rattle.service.specs.Space.{takes_place, is_full, used_after, free_after, spaced}
use Rattle.apart.specs.Apart.{on_one_file, Got, then, LeavesFree, FilesCommute}
use Rattle.apart.specs.Agree.{AgreeOn, StoresOn, StoresOff, blocks_of, copies_of, Agrees, On, Off}
use Rattle.apart.proofs.Agreeing.{agree_refl, set_both, set_off}
use Rattle.apart.proofs.Services.{agrees_sym, agrees_trans, agrees_less, agrees_joined, agrees_whole, off_on}
use Rattle.apart.proofs.FileLocal.{FileAlike, file_local, file_off, flush_named, answer_named}
use Rattle.apart.proofs.BlockLocal.{BlockAlike, block_local, block_off, takes_same, written_named}
use Rattle.apart.proofs.StoreLocal.{place_same, write_uses, answer_uses, one_off, answer_off, recounted_same}

-- what a step gets, and that it leaves services that agree on its file
pub record Alike (f : ℕ) (s t : Service) (o p : Outcome) : Type 0 where
  pub got :
      ◌≡◌ {A = Got} (record { reply = o.reply; calls = o.calls; grants = o.grants })
      (record { reply = p.reply; calls = p.calls; grants = p.grants })
  pub on : On f o.service p.service

-- ---- a step on a file

abbrev file_after : Service → Step → ℕ → FileAfter
file_after s x f = file_step (sizes_of s) (embargoed_at s (client_of x)) (table_in s).recovering (file_at s f) (stores_of s) x

-- one file stored: all others stay
with_file_off : (s : Service) (f : ℕ) (x : SharedFile) (a : Stores) → StoresOff f (stores_of s) a → Off f s (with_file s f x a)
with_file_off s f x a off =
    let here : not (eqb f f) ≡ false = ap not (eq-eqb f f refl) in
    record {
      sizes = refl;
      recovering = refl;
      reported = refl;
      embargoed = refl;
      files = set_off (table_in s).files f x.entry here;
      clients = set_off s.clients f x.sides here;
      stores = off;
      used = agree_refl;
      free = refl;
    }

-- the same file stored into both
with_file_on : (s t : Service) (f : ℕ) (x : SharedFile) (a b : Stores) → On f s t → StoresOn f a b → On f (with_file s f x a) (with_file t f x b)
with_file_on s t f x a b h on =
    record {
      sizes = h.sizes;
      recovering = h.recovering;
      reported = h.reported;
      embargoed = h.embargoed;
      files = set_both f x.entry h.files;
      clients = set_both f x.sides h.clients;
      stores = on;
      used = h.used;
      free = h.free;
    }

-- it looks at the sizes, the server's flags and its file
module _ (s t : Service) (x : Step) (f : ℕ) (h : On f s t) where
  same_sizes : sizes_of s ≡ sizes_of t
  same_sizes = ap in_force h.sizes

  same_entry : (file_at s f).entry ≡ (file_at t f).entry
  same_entry = h.files.same f (eq-eqb f f refl)

  same_sides : (file_at s f).sides ≡ (file_at t f).sides
  same_sides = h.clients.same f (eq-eqb f f refl)

  same_file : file_at s f ≡ file_at t f
  same_file =
      ap (λ (e : Entry). record { entry = e; sides = (file_at s f).sides }) same_entry
      ∙ ap (λ (d : Sides). record { entry = (file_at t f).entry; sides = d }) same_sides

  same_embargo : (i : ℕ) → embargoed_at s i ≡ embargoed_at t i
  same_embargo i = ap (λ (l : List Bool). is_embargoed l i) h.embargoed

  same_report : (i : ℕ) → reported_at s i ≡ reported_at t i
  same_report i = ap (λ (l : List Bool). is_reported l i) h.reported

  file_as : file_after s x f ≡ file_step (sizes_of t) (embargoed_at t (client_of x)) (table_in t).recovering (file_at t f) (stores_of s) x
  file_as =
      ap (λ (z : Sizes). file_step z (embargoed_at s (client_of x)) (table_in s).recovering (file_at s f) (stores_of s) x) same_sizes
      ∙ ap (λ (e : Bool). file_step (sizes_of t) e (table_in s).recovering (file_at s f) (stores_of s) x) (same_embargo (client_of x))
      ∙ ap (λ (r : Bool). file_step (sizes_of t) (embargoed_at t (client_of x)) r (file_at s f) (stores_of s) x) h.recovering
      ∙ ap (λ (y : SharedFile). file_step (sizes_of t) (embargoed_at t (client_of x)) (table_in t).recovering y (stores_of s) x) same_file

  file_alike : class_of x ≡ OnFile f → Alike f s t (file_outcome s f (file_after s x f)) (file_outcome t f (file_after t x f))
  file_alike is =
      let o = file_after s x f in
      let p = file_after t x f in
      let like : FileAlike f o p =
      subst (λ (q : FileAfter). FileAlike f q p) (sym file_as)
      (file_local (sizes_of t) (in_force_permitted t.sizes) (embargoed_at t (client_of x)) (table_in t).recovering (file_at t f) (stores_of s) (stores_of t) x f is
      h.stores) in
      record {
        got =
            ap (λ r. record { reply = r; calls = o.calls; grants = no_grants }) like.reply
            ∙ ap (λ (c : List ℕ). record { reply = p.reply; calls = c; grants = no_grants }) like.calls;
        on =
            subst (λ (y : SharedFile). On f (with_file s f o.file o.stores) (with_file t f y p.stores)) like.file
            (with_file_on s t f o.file o.stores p.stores h like.stores);
      }

-- ---- a step on a block

abbrev block_after : Bool → Bool → Service → Step → ℕ → ℕ → BlockAfter
block_after takes full s x i f =
    block_step (sizes_of s) (embargoed_at s i) (table_in s).recovering (reported_at s i) (client_at s i f) takes full (stores_of s) x

with_stores_off : (s : Service) (f : ℕ) (a : Stores) → StoresOff f (stores_of s) a → Off f s (with_stores s a)
with_stores_off s f a off =
    record {
      sizes = refl;
      recovering = refl;
      reported = refl;
      embargoed = refl;
      files = agree_refl;
      clients = agree_refl;
      stores = off;
      used = agree_refl;
      free = refl;
    }

module _ (takes full : Bool) (s t : Service) (x : Step) (i f : ℕ) (h : On f s t) where
  same_own : client_at s i f ≡ client_at t i f
  same_own = ap (λ (d : Sides). side_of d i) (same_sides s t x f h)

  block_as :
      block_after takes full s x i f
      ≡ block_step (sizes_of t) (embargoed_at t i) (table_in t).recovering (reported_at t i) (client_at t i f) takes full (stores_of s) x
  block_as =
      ap (λ (z : Sizes). block_step z (embargoed_at s i) (table_in s).recovering (reported_at s i) (client_at s i f) takes full (stores_of s) x) (same_sizes s t x f h)
      ∙ ap (λ (e : Bool). block_step (sizes_of t) e (table_in s).recovering (reported_at s i) (client_at s i f) takes full (stores_of s) x) (same_embargo s t x f h i)
      ∙ ap (λ (r : Bool). block_step (sizes_of t) (embargoed_at t i) r (reported_at s i) (client_at s i f) takes full (stores_of s) x) h.recovering
      ∙ ap (λ (r : Bool). block_step (sizes_of t) (embargoed_at t i) (table_in t).recovering r (client_at s i f) takes full (stores_of s) x) (same_report s t x f h i)
      ∙ ap (λ (own : ClientFile). block_step (sizes_of t) (embargoed_at t i) (table_in t).recovering (reported_at t i) own takes full (stores_of s) x) same_own

  block_alike : class_of x ≡ OnBlock i f → Alike f s t (block_outcome s (block_after takes full s x i f)) (block_outcome t (block_after takes full t x i f))
  block_alike is =
      let o = block_after takes full s x i f in
      let p = block_after takes full t x i f in
      let like : BlockAlike f o p =
      subst (λ (q : BlockAfter). BlockAlike f q p) (sym block_as)
      (block_local (sizes_of t) (in_force_permitted t.sizes) (embargoed_at t i) (table_in t).recovering (reported_at t i) (client_at t i f) takes full (stores_of s)
      (stores_of t) x i f is h.stores) in
      record {
        got = ap (λ r. record { reply = r; calls = no_calls; grants = no_grants }) like.reply;
        on =
            record {
              sizes = h.sizes;
              recovering = h.recovering;
              reported = h.reported;
              embargoed = h.embargoed;
              files = h.files;
              clients = h.clients;
              stores = like.stores;
              used = h.used;
              free = h.free;
            };
      }

-- ---- any step on one file, but for the store

moved_off : (takes full : Bool) (s : Service) (x : Step) → on_one_file x ≡ true → Off (file_of x) s (moved takes full s x).service
unfolding moved
moved_off takes full s (Open m i f) one = with_file_off s f _ _ (file_off (sizes_of s) (in_force_permitted s.sizes) (embargoed_at s i) (table_in s).recovering (file_at s f) (stores_of s) (Open m i f) f refl)
moved_off takes full s (Close m i f) one = with_file_off s f _ _ (file_off (sizes_of s) (in_force_permitted s.sizes) (embargoed_at s i) (table_in s).recovering (file_at s f) (stores_of s) (Close m i f) f refl)
moved_off takes full s (Read i f b) one = with_stores_off s f _ (block_off (sizes_of s) (in_force_permitted s.sizes) (embargoed_at s i) (table_in s).recovering (reported_at s i) (client_at s i f) takes full (stores_of s) (Read i f b) i f refl)
moved_off takes full s (Write i f b v) one = with_stores_off s f _ (block_off (sizes_of s) (in_force_permitted s.sizes) (embargoed_at s i) (table_in s).recovering (reported_at s i) (client_at s i f) takes full (stores_of s) (Write i f b v) i f refl)
moved_off takes full s (Flush i f b) one = with_file_off s f _ _ (file_off (sizes_of s) (in_force_permitted s.sizes) (embargoed_at s i) (table_in s).recovering (file_at s f) (stores_of s) (Flush i f b) f refl)
moved_off takes full s (Answer i f) one = with_file_off s f _ _ (file_off (sizes_of s) (in_force_permitted s.sizes) (embargoed_at s i) (table_in s).recovering (file_at s f) (stores_of s) (Answer i f) f refl)
moved_off takes full s Crash one = absurd (true≢false (sym one))
moved_off takes full s (Report i) one = absurd (true≢false (sym one))
moved_off takes full s End one = absurd (true≢false (sym one))
moved_off takes full s (Restart i) one = absurd (true≢false (sym one))
moved_off takes full s (Embargo i f) one = absurd (true≢false (sym one))
moved_off takes full s (Lift i) one = absurd (true≢false (sym one))

moved_alike :
    (takes full : Bool) (s t : Service) (x : Step)
    → on_one_file x ≡ true
    → On (file_of x) s t
    → Alike (file_of x) s t (moved takes full s x) (moved takes full t x)
unfolding moved
moved_alike takes full s t (Open m i f) one h = file_alike s t (Open m i f) f h refl
moved_alike takes full s t (Close m i f) one h = file_alike s t (Close m i f) f h refl
moved_alike takes full s t (Read i f b) one h = block_alike takes full s t (Read i f b) i f h refl
moved_alike takes full s t (Write i f b v) one h = block_alike takes full s t (Write i f b v) i f h refl
moved_alike takes full s t (Flush i f b) one h = file_alike s t (Flush i f b) f h refl
moved_alike takes full s t (Answer i f) one h = file_alike s t (Answer i f) f h refl
moved_alike takes full s t Crash one h = absurd (true≢false (sym one))
moved_alike takes full s t (Report i) one h = absurd (true≢false (sym one))
moved_alike takes full s t End one h = absurd (true≢false (sym one))
moved_alike takes full s t (Restart i) one h = absurd (true≢false (sym one))
moved_alike takes full s t (Embargo i f) one h = absurd (true≢false (sym one))
moved_alike takes full s t (Lift i) one h = absurd (true≢false (sym one))

-- ---- the store

-- a write that names what is there takes a place in both services, or in neither
same_takes :
    (full : Bool) (s t : Service) (x : Step)
    → on_one_file x ≡ true
    → On (file_of x) s t
    → moved (takes_place s x) full t x ≡ moved (takes_place t x) full t x
unfolding moved
same_takes full s t (Open m i f) one h = refl
same_takes full s t (Close m i f) one h = refl
same_takes full s t (Read i f b) one h = refl
same_takes full s t (Write i f b v) one h =
    ap (block_outcome t)
    (takes_same (sizes_of t) (in_force_permitted t.sizes) (embargoed_at t i) (table_in t).recovering (reported_at t i) (client_at t i f)
    (takes_place s (Write i f b v)) (takes_place t (Write i f b v)) full (stores_of t) i f b v
    (λ client block. place_same f s t h i b v client block))
same_takes full s t (Flush i f b) one h = refl
same_takes full s t (Answer i f) one h = refl
same_takes full s t Crash one h = refl
same_takes full s t (Report i) one h = refl
same_takes full s t End one h = refl
same_takes full s t (Restart i) one h = refl
same_takes full s t (Embargo i f) one h = refl
same_takes full s t (Lift i) one h = refl

-- a step that is done names a client and a block that are there
done_client : (takes full : Bool) (s : Service) (i f : ℕ) → is_refused (moved takes full s (Answer i f)).reply ≡ false → i < max_clients
unfolding moved
done_client takes full s i f done =
    answer_named (sizes_of s) (in_force_permitted s.sizes) (embargoed_at s i) (table_in s).recovering (file_at s f) (stores_of s) i f done

done_flushed : (takes full : Bool) (s : Service) (i f b : ℕ) → is_refused (moved takes full s (Flush i f b)).reply ≡ false → b < max_blocks
unfolding moved
done_flushed takes full s i f b done =
    flush_named (sizes_of s) (in_force_permitted s.sizes) (embargoed_at s i) (table_in s).recovering (file_at s f) (stores_of s) i f b done

done_written : (takes full : Bool) (s : Service) (i f b v : ℕ) → is_refused (moved takes full s (Write i f b v)).reply ≡ false → b < max_blocks
unfolding moved
done_written takes full s i f b v done =
    (written_named (sizes_of s) (in_force_permitted s.sizes) (embargoed_at s i) (table_in s).recovering (reported_at s i) (client_at s i f) takes full
    (stores_of s) i f b v done).1

-- the blocks that it uses are of its file
used_off :
    (takes full : Bool) (s : Service) (x : Step)
    → on_one_file x ≡ true
    → is_refused (moved takes full s x).reply ≡ false
    → AgreeOn (λ k. not (blocks_of (file_of x) k)) false s.server.used (used_after s x)
used_off takes full s (Open m i f) one done = agree_refl
used_off takes full s (Close m i f) one done = agree_refl
used_off takes full s (Read i f b) one done = agree_refl
used_off takes full s (Write i f b v) one done =
    split (client_at s i f).opens.caching
    (λ e. subst (λ (l : List Bool). AgreeOn (λ k. not (blocks_of f k)) false s.server.used l) (sym (when _ _ e)) agree_refl)
    (λ e.
    subst (λ (l : List Bool). AgreeOn (λ k. not (blocks_of f k)) false s.server.used l) (sym (unless _ _ e))
    (one_off f b s.server.used (done_written takes full s i f b v done)))
used_off takes full s (Flush i f b) one done = one_off f b s.server.used (done_flushed takes full s i f b done)
used_off takes full s (Answer i f) one done = answer_off f i s
used_off takes full s Crash one done = agree_refl
used_off takes full s (Report i) one done = agree_refl
used_off takes full s End one done = agree_refl
used_off takes full s (Restart i) one done = agree_refl
used_off takes full s (Embargo i f) one done = agree_refl
used_off takes full s (Lift i) one done = agree_refl

-- and the same in both services
used_on_lem :
    (takes full : Bool) (s t : Service) (x : Step)
    → on_one_file x ≡ true
    → On (file_of x) s t
    → is_refused (moved takes full s x).reply ≡ false
    → AgreeOn (blocks_of (file_of x)) false (used_after s x) (used_after t x)
used_on_lem takes full s t (Open m i f) one h done = h.used
used_on_lem takes full s t (Close m i f) one h done = h.used
used_on_lem takes full s t (Read i f b) one h done = h.used
used_on_lem takes full s t (Write i f b v) one h done = write_uses f s t h i b
used_on_lem takes full s t (Flush i f b) one h done = set_both (place f b) true h.used
used_on_lem takes full s t (Answer i f) one h done = answer_uses f s t h i (done_client takes full s i f done)
used_on_lem takes full s t Crash one h done = absurd (true≢false (sym one))
used_on_lem takes full s t (Report i) one h done = absurd (true≢false (sym one))
used_on_lem takes full s t End one h done = absurd (true≢false (sym one))
used_on_lem takes full s t (Restart i) one h done = absurd (true≢false (sym one))
used_on_lem takes full s t (Embargo i f) one h done = absurd (true≢false (sym one))
used_on_lem takes full s t (Lift i) one h done = absurd (true≢false (sym one))

-- as many places are then free
free_on :
    (s t s' t' : Service) (x : Step)
    → on_one_file x ≡ true
    → On (file_of x) s t
    → On (file_of x) s' t'
    → free_after s x s' ≡ free_after t x t'
free_on s t s' t' (Open m i f) one h h' = recounted_same f s t s' t' h h'
free_on s t s' t' (Close m i f) one h h' = recounted_same f s t s' t' h h'
free_on s t s' t' (Read i f b) one h h' = recounted_same f s t s' t' h h'
free_on s t s' t' (Write i f b v) one h h' = recounted_same f s t s' t' h h'
free_on s t s' t' (Flush i f b) one h h' = recounted_same f s t s' t' h h'
free_on s t s' t' (Answer i f) one h h' = recounted_same f s t s' t' h h'
free_on s t s' t' Crash one h h' = absurd (true≢false (sym one))
free_on s t s' t' (Report i) one h h' = absurd (true≢false (sym one))
free_on s t s' t' End one h h' = absurd (true≢false (sym one))
free_on s t s' t' (Restart i) one h h' = absurd (true≢false (sym one))
free_on s t s' t' (Embargo i f) one h h' = absurd (true≢false (sym one))
free_on s t s' t' (Lift i) one h h' = absurd (true≢false (sym one))

-- with other used blocks and another number of free places
stored_agrees :
    {R P Q : ℕ → Bool} {s t : Service} (u v : List Bool) (j k : ℕ)
    → Agrees R P Q s t
    → AgreeOn P false u v
    → j ≡ k
    → Agrees R P Q (with_space s u j) (with_space t v k)
stored_agrees u v j k h used free =
    record {
      sizes = h.sizes;
      recovering = h.recovering;
      reported = h.reported;
      embargoed = h.embargoed;
      files = h.files;
      clients = h.clients;
      stores =
          record {
            blocks = h.stores.blocks;
            copies = h.stores.copies;
            held = h.stores.held;
            dirty = h.stores.dirty;
          };
      used = used;
      free = free;
    }

-- ---- any step on one file

pub step_off : (s : Service) (x : Step) → on_one_file x ≡ true → LeavesFree s x → Off (file_of x) s (then s x)
unfolding step_of spaced
step_off s x one leaves =
    let takes : Bool = takes_place s x in
    let full : Bool = is_full s in
    let refusal : Bool = is_refused (moved takes full s x).reply in
    stored_agrees s.server.used _ s.server.free _ (moved_off takes full s x one)
    (split refusal
    (λ e. subst (λ (l : List Bool). AgreeOn (λ k. not (blocks_of (file_of x) k)) false s.server.used l) (sym (when _ _ e)) agree_refl)
    (λ e.
    subst (λ (l : List Bool). AgreeOn (λ k. not (blocks_of (file_of x) k)) false s.server.used l) (sym (unless _ _ e))
    (used_off takes full s x one e)))
    (sym leaves)

-- what the store makes of two outcomes that are alike
spaced_on :
    (takes full : Bool) (s t : Service) (x : Step)
    → on_one_file x ≡ true
    → On (file_of x) s t
    → Alike (file_of x) s t (moved takes full s x) (moved takes full t x)
    → (refusal : Bool)
    → is_refused (moved takes full s x).reply ≡ refusal
    → On (file_of x) (spaced s x refusal (moved takes full s x).service) (spaced t x refusal (moved takes full t x).service)
unfolding spaced
spaced_on takes full s t x one h like true is =
    stored_agrees s.server.used t.server.used s.server.free t.server.free like.on h.used h.free
spaced_on takes full s t x one h like false is =
    let used = used_on_lem takes full s t x one h is in
    let s' : Service = with_space (moved takes full s x).service (used_after s x) s.server.free in
    let t' : Service = with_space (moved takes full t x).service (used_after t x) t.server.free in
    stored_agrees (used_after s x) (used_after t x) _ _ like.on used
    (free_on s t s' t' x one h (stored_agrees (used_after s x) (used_after t x) s.server.free t.server.free like.on used h.free))

pub step_alike : (s t : Service) (x : Step) → on_one_file x ≡ true → On (file_of x) s t → Alike (file_of x) s t (step_of s x) (step_of t x)
unfolding step_of
step_alike s t x one h =
    let takes : Bool = takes_place s x in
    let full : Bool = is_full s in
    let like = moved_alike takes full s t x one h in
    let refusal : Bool = is_refused (moved takes full s x).reply in
    let same : moved takes full t x ≡ moved (takes_place t x) (is_full t) t x =
    ap (λ (b : Bool). moved takes b t x) (full-same s t x h) ∙ same_takes (is_full t) s t x one h in
    let refused-same : refusal ≡ is_refused (moved takes full t x).reply = ap (λ (g : Got). is_refused g.reply) like.got in
    subst (λ (o : Outcome). Alike (file_of x) s t (with_store s x (moved takes full s x)) (with_store t x o)) same
    (record {
      got = like.got;
      on =
          subst
          (λ (r : Bool). On (file_of x) (spaced s x refusal (moved takes full s x).service) (spaced t x r (moved takes full t x).service))
          refused-same
          (spaced_on takes full s t x one h like refusal refl);
    })
  where
    full-same : (s t : Service) (x : Step) → On (file_of x) s t → is_full s ≡ is_full t
    full-same s t x h =
        ap (λ (n : ℕ). eqb (at_most (sizes_of s).store n) 0) h.free
        ∙ ap (λ (z : Sizes). eqb (at_most z.store t.server.free) 0) (ap in_force h.sizes)

-- ---- two of them

-- neither on g, but not on f
out_both : (p q : Bool) → (not p && not q) ≡ true → not q ≡ true
out_both p q e = and_right (not p) (not q) e

out_first : (p q : Bool) → (not p && not q) ≡ true → not p ≡ true
out_first p q e = and_left (not p) (not q) e

-- what a step on another file leaves of the free places after the first, and before it
module _
    (s : Service) (x y : Step) (onx : on_one_file x ≡ true) (ony : on_one_file y ≡ true) (differ : eqb (file_of x) (file_of y) ≡ false)
    (freex : LeavesFree s x) where
  free_same : (then s y).server.free ≡ (then (then s x) y).server.free
  free_same =
      let differ' : eqb (file_of y) (file_of x) ≡ false = ne_eqb (file_of y) (file_of x) (λ q. eqb-false (file_of x) (file_of y) differ (sym q)) in
      (step_alike s (then s x) y ony (off_on (file_of y) (file_of x) differ' (step_off s x onx freex))).on.free

  pub free_after_lem : LeavesFree s y → LeavesFree (then s x) y
  free_after_lem freey = sym free_same ∙ freey ∙ sym freex

  pub free_before : LeavesFree (then s x) y → LeavesFree s y
  free_before later = free_same ∙ later ∙ freex

pub files_commute : FilesCommute
files_commute s x y onx ony differ freex freey =
    let f = file_of x in
    let g = file_of y in
    let differ' : eqb g f ≡ false = ne_eqb g f (λ q. eqb-false f g differ (sym q)) in
    let s₁ = then s x in
    let s₂ = then s y in
    let x-off = step_off s x onx freex in
    let y-off = step_off s y ony freey in
    let at_x = step_alike s s₂ x onx (off_on f g differ y-off) in
    let at_y = step_alike s s₁ y ony (off_on g f differ' x-off) in
    -- neither takes or frees a place after the other either
    let x-later = step_off s₂ x onx (sym at_x.on.free ∙ freex ∙ y-off.free) in
    let y-later = step_off s₁ y ony (sym at_y.on.free ∙ freey ∙ x-off.free) in
    -- on f: what y does later is elsewhere, and x leaves the same
    let on-f : On f (then s₁ y) (then s₂ x) = agrees_trans (agrees_sym (off_on f g differ y-later)) at_x.on in
    -- off f and off g: neither changes anything
    let few_files : (k : ℕ) → (not (eqb k g) && not (eqb k f)) ≡ true → not (eqb k g) ≡ true = λ k e. out_first (eqb k g) (eqb k f) e in
    let neither-s₁ = agrees_less {R' = λ k. not (eqb k g) && not (eqb k f)} {P' = λ k. not (blocks_of g k) && not (blocks_of f k)} {Q' = λ k. not (copies_of g k) && not (copies_of f k)}
    few_files (λ k e. out_first (blocks_of g k) (blocks_of f k) e) (λ k e. out_first (copies_of g k) (copies_of f k) e) y-later in
    let neither-s = agrees_less {R' = λ k. not (eqb k g) && not (eqb k f)} {P' = λ k. not (blocks_of g k) && not (blocks_of f k)} {Q' = λ k. not (copies_of g k) && not (copies_of f k)}
    (λ k e. out_both (eqb k g) (eqb k f) e) (λ k e. out_both (blocks_of g k) (blocks_of f k) e) (λ k e. out_both (copies_of g k) (copies_of f k) e) x-off in
    let neither-s₂ = agrees_less {R' = λ k. not (eqb k g) && not (eqb k f)} {P' = λ k. not (blocks_of g k) && not (blocks_of f k)} {Q' = λ k. not (copies_of g k) && not (copies_of f k)}
    few_files (λ k e. out_first (blocks_of g k) (blocks_of f k) e) (λ k e. out_first (copies_of g k) (copies_of f k) e) y-off in
    let neither = agrees_trans (agrees_sym neither-s₁) (agrees_trans (agrees_sym neither-s) neither-s₂) in
    let off-f : Off f (then s₁ y) (then s₂ x) = agrees_trans (agrees_joined (agrees_sym at_y.on) neither) x-later in
    record {
      first = sym at_x.got;
      second = sym at_y.got;
      service = agrees_whole on-f off-f;
    }

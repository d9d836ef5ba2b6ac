-- From a step but for the store to the step: the word after the rows and the flags of the used blocks are put to it.
-- Assumes nothing.
use Prim.Native.Nat.{ℕ, ◌+◌, ◌*◌, ◌<◌}
use mathlib.Core.Path.{◌≡◌, refl, sym, ap, ap₂, ◌∙◌}
use mathlib.Core.Bool.{Bool, true, false, not, ◌&&◌, ◌||◌}
use mathlib.Core.List.{List}
use native.Mathlib.Omega.{arith}
use lib.ListN.{length, get_or, set, take, length-set}
use lib.Seq.{get_or-take, get_or-set_same, get_or-set_other, set-get_or}
use borrow.Author.Tests.{eq-eqb, le-leb}
use Rattle.sizes.specs.declared.sizes.Sizes.{Sizes}
use Rattle.sizes.specs.Sizes.{max_clients, max_files, in_force, Permitted}
use Rattle.sizes.proofs.Choosing.{conflict}
use Rattle.protocol.specs.declared.client.Sides.{Sides}
use Rattle.protocol.specs.declared.entry.Entry.{Entry}
use Rattle.protocol.specs.declared.reply.Reply.{Reply}
use Rattle.protocol.specs.declared.shared.SharedFile.{SharedFile}
use Rattle.protocol.specs.declared.step.Step.{Step}
use Rattle.protocol.specs.Reply.{is_refused, no_grants}
use Rattle.blocks.specs.declared.stores.Stores.{Stores}
use Rattle.words.specs.Rows.{row_words, table_rows, table_words, word_at, entry_held, sides_held}
use Rattle.words.proofs.Listing.{listed_agree}
use Rattle.words.proofs.Places.{same_row}
use Rattle.service.specs.declared.service.Service.{Service}
use Rattle.service.specs.declared.outcome.Outcome.{Outcome}
use Rattle.service.specs.Contents.{with_space}
use Rattle.service.specs.Counted.{known_held}
use Rattle.service.specs.Lent.{state_flags, recovering_held, used_held, free_held, service_held}
use Rattle.service.specs.Served.{Moves, Serves}
use Rattle.service.specs.Space.{is_counted, counted_on, counted_in, is_known, takes_place, is_full}
use Rattle.service.specs.Space.{used_after, recounted, free_after, spaced}
use Rattle.service.specs.Step.{moved, with_store, step_of}
use Rattle.service.proofs.Accepted.{Passed, tests_in, done_of, when_moved, moved_rests, step_stored}
use Rattle.service.proofs.Counting.{any_cong, count_cong, sum_cong}
use Rattle.service.proofs.LentFlags.{flag_embargoed, state_held_lem}

-- sizes inside their ranges are in force
pub forced : {z : Sizes} → Permitted z → z ≡ in_force z
forced {z} p =
    rw (
      le-leb 1 z.clients p.some_client,
      le-leb z.clients max_clients p.clients,
      le-leb 1 z.files p.some_file,
      le-leb z.files max_files p.files,
      le-leb 1 z.blocks p.some_block,
      le-leb z.blocks 8 p.blocks,
      le-leb z.store 512 p.store,
    )

-- ---- the service with another store

-- the words of the rows and the flags of the state are as they were
pub record Keeping (t₀ : List ℕ) (flags₀ : List Bool) (t : List ℕ) (flags : List Bool) : Type 0 where
  pub long : length t ≡ length t₀
  pub flags_long : length flags ≡ length flags₀
  pub words : (g k : ℕ) → g < max_files → k < row_words → word_at t g k ≡ word_at t₀ g k
  pub state : take state_flags flags ≡ take state_flags flags₀

pub all_kept : (t : List ℕ) (flags : List Bool) → Keeping t flags t flags
all_kept t flags = record { long = refl; flags_long = refl; words = λ g k there below. refl; state = refl }

-- once the word after the rows is stored
pub word_kept :
    (t : List ℕ) (flags₀ flags : List Bool) (v : ℕ) → Keeping t flags₀ t flags → Keeping t flags₀ (set t table_rows v) flags
word_kept t flags₀ flags v k =
    record {
      long = length-set t table_rows v;
      flags_long = k.flags_long;
      words =
          λ g j there below. get_or-set_other t table_rows (g * row_words + j) v 0 (λ e. omega (arith, there, below, e));
      state = k.state;
    }

pub free_set : (t : List ℕ) (v : ℕ) → length t ≡ table_words → free_held (set t table_rows v) ≡ v
free_set t v long = get_or-set_same t table_rows v 0 (omega (arith, long))

module _ (given : Sizes) (used : List Bool) (free : ℕ) (a : Stores) where
  abbrev built : List Entry → Bool → List Bool → List Bool → List Sides → Service
  built files recovering reported embargoed clients =
      record {
        sizes = given;
        server =
            record {
              table = record { files = files; recovering = recovering; reported = reported; embargoed = embargoed };
              blocks = a.blocks;
              used = used;
              free = free;
            };
        clients = clients;
        copies = a.copies;
        held = a.held;
        dirty = a.dirty;
      }

  built_as :
      (files files' : List Entry) (recovering recovering' : Bool) (reported reported' embargoed embargoed' : List Bool)
      (clients clients' : List Sides)
      → files ≡ files'
      → recovering ≡ recovering'
      → reported ≡ reported'
      → embargoed ≡ embargoed'
      → clients ≡ clients'
      → built files recovering reported embargoed clients ≡ built files' recovering' reported' embargoed' clients'
  built_as files files' recovering recovering' reported reported' embargoed embargoed' clients clients' p q r e c =
      rw (p, q, r, e, c)

pub space_service :
    (given : Sizes) (t₀ t : List ℕ) (flags₀ flags : List Bool) (a : Stores)
    → Keeping t₀ flags₀ t flags
    → service_held given t flags a ≡ with_space (service_held given t₀ flags₀ a) (used_held flags) (free_held t)
space_service given t₀ t flags₀ flags a k =
    let (recovering, reported, embargoed) = state_held_lem flags flags₀ k.state in
    built_as given (used_held flags) (free_held t) a _ _ _ _ _ _ _ _ _ _
    (listed_agree max_files (λ g. entry_held t g) (λ g. entry_held t₀ g)
    (λ g h. ap (λ (y : SharedFile). y.entry) (same_row t t₀ g (λ j l. k.words g j h l))))
    recovering
    reported
    embargoed
    (listed_agree max_files (λ g. sides_held t g) (λ g. sides_held t₀ g)
    (λ g h. ap (λ (y : SharedFile). y.sides) (same_row t t₀ g (λ j l. k.words g j h l))))

-- ---- the step

spaced_refused :
    (s s' : Service) (x : Step) (r : Bool) → r ≡ true → spaced s x r s' ≡ with_space s' s.server.used s.server.free
unfolding spaced
spaced_refused s s' x r e = rw e

spaced_done :
    (s s' : Service) (x : Step) (r : Bool)
    → r ≡ false
    → spaced s x r s' ≡ with_space s' (used_after s x) (free_after s x (with_space s' (used_after s x) s.server.free))
unfolding spaced
spaced_done s s' x r e = rw e

abbrev replied : Service → Reply → List ℕ → Outcome
replied s reply calls = record { service = s; reply = reply; calls = calls; grants = no_grants }

-- but for the store, a step leaves the number of free places
abbrev pub LeavesFree : Step → Type 0
LeavesFree x = (takes full : Bool) (s : Service) → (moved takes full s x).service.server.free ≡ s.server.free

-- `takes` and `full` are what the step finds, or make no difference to it
abbrev pub Alike : Bool → Bool → Sizes → Step → List ℕ → List Bool → Stores → Type 0
Alike takes full sizes x t flags a =
    (given : Sizes)
    → sizes ≡ in_force given
    → (let s = service_held given t flags a in moved (takes_place s x) (is_full s) s x ≡ moved takes full s x)

module _
    {takes full : Bool}
    {sizes : Sizes}
    {x : Step}
    {t₀ t : List ℕ}
    {flags₀ flags : List Bool}
    {a₀ a : Stores}
    {reply : Reply}
    {calls : List ℕ}
    (m : Moves takes full sizes x t₀ flags₀ a₀ t flags a reply calls) where
  -- what was dirty is dirty after a refusal
  pub dirty_rests : Permitted sizes → is_refused reply ≡ true → a.dirty ≡ a₀.dirty
  dirty_rests p e =
      let is = m.taken sizes (forced p) in
      ap (λ (o : Outcome). o.service.dirty) is
      ∙ ap (λ (s : Service). s.dirty)
      (moved_rests takes full (service_held sizes t₀ flags₀ a₀) x (ap (λ (o : Outcome). is_refused o.reply) (sym is) ∙ e))

  -- what an accepted step has passed, and what it has done
  pub did :
      Permitted sizes
      → is_refused reply ≡ false
      → (let s = service_held sizes t₀ flags₀ a₀ in
      Passed (tests_in takes full sizes s x)
      × (service_held sizes t flags a ≡ (done_of sizes s x).service)
      × (reply ≡ (done_of sizes s x).reply))
  did p e =
      let is = m.taken sizes (forced p) in
      let (tests, done) =
      when_moved takes full (service_held sizes t₀ flags₀ a₀) x (sym (forced p))
      (ap (λ (o : Outcome). is_refused o.reply) (sym is) ∙ e) in
      (tests, ap (λ (o : Outcome). o.service) (is ∙ done), ap (λ (o : Outcome). o.reply) (is ∙ done))

  pub free_stays : Permitted sizes → LeavesFree x → free_held t ≡ free_held t₀
  free_stays p stays =
      ap (λ (o : Outcome). o.service.server.free) (m.taken sizes (forced p))
      ∙ stays takes full (service_held sizes t₀ flags₀ a₀)

  module _ (alike : Alike takes full sizes x t₀ flags₀ a₀) where
    stepped :
        (given : Sizes)
        → sizes ≡ in_force given
        → (let s = service_held given t₀ flags₀ a₀ in
        step_of s x ≡ replied (spaced s x (is_refused reply) (service_held given t flags a)) reply calls)
    stepped given force =
        let s = service_held given t₀ flags₀ a₀ in
        step_stored s x ∙ ap (with_store s x) (alike given force ∙ sym (m.taken given force))

    -- a refusal leaves the store
    pub serves-refused : is_refused reply ≡ true → Serves sizes x t₀ flags₀ a₀ t flags a reply calls
    serves-refused e =
        record {
          long = m.long;
          flags_long = m.flags_long;
          taken =
              λ given force.
              let (words, bits) = m.keeps.refused e in
              let s' = service_held given t flags a in
              ap₂ (λ (u : List Bool) (n : ℕ). replied (with_space s' u n) reply calls) (ap used_held bits) (ap free_held words)
              ∙ ap (λ (r : Service). replied r reply calls)
              (sym (spaced_refused (service_held given t₀ flags₀ a₀) s' x (is_refused reply) e))
              ∙ sym (stepped given force);
          quiet = m.quiet;
          keeps = m.keeps;
        }

    -- one that is done puts it
    pub serves-done :
        (t' : List ℕ) (flags' : List Bool)
        → is_refused reply ≡ false
        → Keeping t flags t' flags'
        → ((given : Sizes) → sizes ≡ in_force given → used_held flags' ≡ used_after (service_held given t₀ flags₀ a₀) x)
        → ((given : Sizes)
        → sizes ≡ in_force given
        → free_held t'
        ≡ free_after (service_held given t₀ flags₀ a₀) x
        (with_space (service_held given t flags a) (used_held flags') (free_held t₀)))
        → Serves sizes x t₀ flags₀ a₀ t' flags' a reply calls
    serves-done t' flags' e k used free =
        record {
          long = k.long ∙ m.long;
          flags_long = k.flags_long ∙ m.flags_long;
          taken =
              λ given force.
              let s = service_held given t₀ flags₀ a₀ in
              let s' = service_held given t flags a in
              ap (λ (r : Service). replied r reply calls)
              (space_service given t t' flags flags' a k
              ∙ ap (λ (n : ℕ). with_space s' (used_held flags') n) (free given force)
              ∙ ap (λ (u : List Bool). with_space s' u (free_after s x (with_space s' u (free_held t₀)))) (used given force)
              ∙ sym (spaced_done s s' x (is_refused reply) e))
              ∙ sym (stepped given force);
          quiet = m.quiet;
          keeps =
              record {
                refused = λ r. conflict r e;
                words = λ g j there below stays. k.words g j there below ∙ m.keeps.words g j there below stays;
                reports = λ r. k.state ∙ m.keeps.reports r;
              };
        }

-- ---- what is taken

-- whom the server knows of, by the flags
abbrev pub knows : List Bool → ℕ → Bool
knows flags i = known_held (recovering_held flags) flags i

known_held_lem :
    (given : Sizes) (t : List ℕ) (flags : List Bool) (a : Stores) (i : ℕ)
    → i < max_clients
    → is_known (service_held given t flags a) i ≡ knows flags i
known_held_lem given t flags a i h =
    ap₂ (λ (e r : Bool). not e && (not (recovering_held flags) || r))
    (flag_embargoed flags i h)
    (get_or-take max_clients flags i false h)

-- clients that agree below the number of clients
pub counted_by_lem :
    (z : Sizes) (who who' : ℕ → Bool) (used dirty : List Bool) (f : ℕ)
    → ((i : ℕ) → i < z.clients → who i ≡ who' i)
    → counted_on z who used dirty f ≡ counted_on z who' used dirty f
counted_by_lem z who who' used dirty f same =
    count_cong z.blocks (is_counted z.clients who used dirty f) (is_counted z.clients who' used dirty f)
    (λ b l.
    ap (λ (d : Bool). get_or used (f * 8 + b) false || d)
    (any_cong z.clients _ _ (λ i h. ap (λ (w : Bool). w && get_or dirty ((f * 8 + i) * 8 + b) false) (same i h))))

pub counted_all_by :
    (z : Sizes) (who who' : ℕ → Bool) (used dirty : List Bool)
    → ((i : ℕ) → i < z.clients → who i ≡ who' i)
    → counted_in z who used dirty ≡ counted_in z who' used dirty
counted_all_by z who who' used dirty same =
    sum_cong z.files (counted_on z who used dirty) (counted_on z who' used dirty)
    (λ f l. counted_by_lem z who who' used dirty f same)

module _ {sizes : Sizes} (p : Permitted sizes) (given : Sizes) (force : sizes ≡ in_force given) where
  held_below : (t : List ℕ) (flags : List Bool) (a : Stores) (i : ℕ) → i < sizes.clients → is_known (service_held given t flags a) i ≡ knows flags i
  held_below t flags a i h = known_held_lem given t flags a i (omega (arith, h, p.clients))

  -- of a file, and of all
  pub counted_held_lem :
      (t : List ℕ) (flags : List Bool) (a : Stores) (used dirty : List Bool) (f : ℕ)
      → counted_on (in_force given) (is_known (service_held given t flags a)) used dirty f ≡ counted_on sizes (knows flags) used dirty f
  counted_held_lem t flags a used dirty f =
      ap (λ (z : Sizes). counted_on z (is_known (service_held given t flags a)) used dirty f) (sym force)
      ∙ counted_by_lem sizes (is_known (service_held given t flags a)) (knows flags) used dirty f (held_below t flags a)

  pub counted_all_held :
      (t : List ℕ) (flags : List Bool) (a : Stores) (used dirty : List Bool)
      → counted_in (in_force given) (is_known (service_held given t flags a)) used dirty ≡ counted_in sizes (knows flags) used dirty
  counted_all_held t flags a used dirty =
      ap (λ (z : Sizes). counted_in z (is_known (service_held given t flags a)) used dirty) (sym force)
      ∙ counted_all_by sizes (is_known (service_held given t flags a)) (knows flags) used dirty (held_below t flags a)

-- flags of the state that are the same know the same clients
pub known_kept :
    (flags flags' : List Bool) (i : ℕ)
    → take state_flags flags' ≡ take state_flags flags
    → i < max_clients
    → knows flags' i ≡ knows flags i
known_kept flags flags' i same h =
    let bit : (j : ℕ) → j < state_flags → get_or flags' j false ≡ get_or flags j false =
    λ j l.
    sym (get_or-take state_flags flags' j false l)
    ∙ ap (λ (m : List Bool). get_or m j false) same
    ∙ get_or-take state_flags flags j false l in
    rw (bit (max_clients + 1 + i) (omega arith), bit max_clients (omega arith), bit i (omega arith))

-- a recount of a number that stays gives what was there
pub recounted_same : (store free n n' : ℕ) → n ≡ n' → recounted store free n n' ≡ free
recounted_same store free n n' e = rw (eq-eqb n n' e)

pub recount_rests : (store : ℕ) (t : List ℕ) (n n' : ℕ) → n ≡ n' → set t table_rows (recounted store (free_held t) n n') ≡ t
recount_rests store t n n' e =
    ap (set t table_rows) (recounted_same store (free_held t) n n' e) ∙ set-get_or t table_rows 0

-- A standby that has read the image of another server, whatever it held before: as far as the sizes go, it is what a
-- crash of that server leaves. Assumes nothing.
use Prim.Native.Nat.{ℕ, ◌-◌, ◌≤◌, ◌<◌}
use mathlib.Core.Path.{◌≡◌, refl, sym, ap, ◌∙◌, fun_ext, subst, subst⁻¹}
use mathlib.Core.Bool.{Bool, true, false, cond, not, ◌&&◌}
use mathlib.Core.List.{List}
use native.Mathlib.Omega.{arith}
use lib.Dec.{eqb, ltb}
use lib.ListN.{length, get_or, take}
use lib.Seq.{length-take-le, get_or-take, ext_get_or}
use borrow.Author.Tests.{lt-ltb, ltb-true}
use Rattle.records.specs.declared.record.Mode.TheVariants.{Read}
use Rattle.records.specs.Record.{not_open}
use Rattle.records.specs.Version.{as_read}
use Rattle.sizes.proofs.Choosing.{split, conflict, when}
use Rattle.sizes.specs.declared.sizes.Sizes.{Sizes}
use Rattle.sizes.specs.Sizes.{max_clients, max_files, nobody, Permitted, place}
use Rattle.decision.specs.Lists.{filled}
use Rattle.sizes.proofs.InForce.{client_fits, file_fits}
use Rattle.decision.proofs.Storing.{length_stored, get_d_stored}
use Rattle.protocol.specs.declared.entry.Entry.{Entry}
use Rattle.protocol.specs.Client.{no_client}
use Rattle.protocol.specs.Entry.{record_at, call_to, crashed_entry}
use Rattle.protocol.specs.Book.{History}
use Rattle.protocol.specs.Table.{Row, seen}
use Rattle.protocol.proofs.Seen.{call_seen}
use Rattle.protocol.proofs.View.{View, crashed_view}
use Rattle.table.specs.TableStep.{no_entry, entry_of, is_embargoed, crashed}
use Rattle.service.specs.declared.service.Server.{Server}
use Rattle.service.specs.declared.service.Service.{Service}
use Rattle.service.specs.Aside.{Unknown, Forgotten}
use Rattle.service.specs.Contents.{table_in, entry_at, block_at, used_at, embargoed_at, client_at, copy_at, held_at}
use Rattle.service.specs.Contents.{dirty_at, with_table, with_space}
use Rattle.service.specs.Space.{counted_in, used_in, is_within, is_known}
use Rattle.service.specs.Demand3.{Memory}
use Rattle.service.proofs.Tests.{and_false}
use Rattle.service.proofs.Views.{Sized, sized_stored, is_in, view_of, heard_of, same_view}
use Rattle.service.proofs.Invariant.{Recovers, row_in}
use Rattle.service.proofs.TableSteps.{TableStep, crash_step}
use Rattle.service.proofs.Forgotten.{entries_of, forgotten_by}
use Rattle.service.proofs.Committed.{used_counted, dirty_counted, counted_cases, shrinks_counted, none_counted}
use Rattle.service.proofs.Committed.{reads_own_lem}
use Rattle.service.proofs.StoreKept.{KeptIn, Kept}
use Rattle.restore.specs.Reading.{with_version, with_versions, with_blocks, with_used, with_embargoes}
use Rattle.restore.proofs.GivenBlocks.{length_taken, taken_place}
use Rattle.history.specs.Event.{served_by, Whole}

-- a list that is filled whole does not show what it held
filled_alike {ℓ} : {A : Type ℓ} (n : ℕ) (a d : A) (l l' : List A) → length l ≡ n → length l' ≡ n → filled n a l ≡ filled n a l'
filled_alike n a d l l' long long' =
    let size = length_stored n (λ i. i) (λ i. a) l ∙ long in
    let size' = length_stored n (λ i. i) (λ i. a) l' ∙ long' in
    ext_get_or d (filled n a l) (filled n a l') (size ∙ sym size')
    (λ i h.
    let below : i < n = omega (arith, h, size) in
    get_d_stored n (λ i. i) (λ i. a) l d i below (omega (arith, below, long)) (λ k a b e. omega (arith, a, e))
    ∙ sym (get_d_stored n (λ i. i) (λ i. a) l' d i below (omega (arith, below, long')) (λ k a b e. omega (arith, a, e))))

-- what is known of a client from what an entry shows of n clients
unknown_seen : (n i : ℕ) (e x : Entry) → i < n → seen n x ≡ seen n e → Unknown n e i → Unknown n x i
unknown_seen n i e x below same h =
    record {
      no_record =
          sym (get_or-take n x.records i not_open below)
          ∙ ap (λ (y : Entry). record_at y i) same
          ∙ get_or-take n e.records i not_open below
          ∙ h.no_record;
      not_last = ap (λ (y : Entry). eqb y.last i) same ∙ h.not_last;
      not_waiting = ap (λ (y : Entry). eqb y.waiter i) same ∙ h.not_waiting;
      not_called =
          sym (call_seen n x i below) ∙ ap (λ (y : Entry). call_to n y i) same ∙ call_seen n e i below ∙ h.not_called;
    }

-- what a crash leaves
abbrev pub left_by : Sizes → Service → Service
left_by z x =
    with_space (with_table x (crashed z (table_in x))) x.server.used (z.store - used_in z x.server.used)

-- z are the sizes in force
module _
    {z : Sizes}
    (most : Permitted z)
    (s : Service)
    (sized : Sized z s)
    (v : Server)
    (whole : Whole v)
    (entries : List Entry)
    (used : List Bool)
    (blocks : List ℕ)
    (embargoed : List Bool) where
  abbrev n : ℕ
  n = z.clients

  -- the clients with the standby
  abbrev o : Service
  o = served_by v s

  sized_o : Sized z o
  sized_o =
      record {
        sizes = sized.sizes;
        entries = whole.entries;
        words = whole.places;
        reports = whole.reports;
        embargoes = whole.embargoes;
        files = sized.files;
        sides = sized.sides;
        copies = sized.copies;
        held = sized.held;
        dirty = sized.dirty;
      }

  -- both after a crash
  abbrev crashed_o : Service
  crashed_o = left_by z o

  abbrev crashed_s : Service
  crashed_s = left_by z s

  step_o : TableStep z o (with_table o (crashed z v.table)) (λ i. ltb i n && embargoed_at o i) (crashed_view n)
  step_o = crash_step most sized_o

  step_s : TableStep z s (with_table s (crashed z (table_in s))) (λ i. ltb i n && embargoed_at s i) (crashed_view n)
  step_s = crash_step most sized

  sized_crashed : Sized z crashed_s
  sized_crashed =
      sized_stored (with_table s (crashed z (table_in s))) s.server.used (z.store - used_in z s.server.used)
      step_s.sized

  -- the standby after the reading, with the versions, used blocks, blocks and embargoes that it took as far as these
  -- sizes go; what is not used is free
  abbrev pub contents : Sizes → Service
  contents y =
      record {
        sizes = s.sizes;
        server =
            record {
              table =
                  record {
                    files = with_versions y.files entries (table_in crashed_o).files;
                    recovering = true;
                    reported = (table_in crashed_o).reported;
                    embargoed = with_embargoes y.clients embargoed v.table.embargoed;
                  };
              blocks = with_blocks y.files y.blocks blocks v.blocks;
              used = with_used y.files y.blocks used v.used;
              free = y.store - used_in y (with_used y.files y.blocks used v.used);
            };
        clients = s.clients;
        copies = s.copies;
        held = s.held;
        dirty = s.dirty;
      }

  abbrev moved : Service
  moved = contents z

  sized_moved : Sized z moved
  sized_moved =
      record {
        sizes = sized.sizes;
        entries =
            length_stored z.files (λ f. f) (λ f. with_version (entry_of (table_in crashed_o).files f) (as_read (entry_of entries f).version))
            (table_in crashed_o).files
            ∙ step_o.sized.entries;
        words = length_taken 0 z.blocks most.blocks blocks v.blocks whole.places z.files;
        reports = step_o.sized.reports;
        embargoes = length_stored n (λ i. i) (is_embargoed embargoed) v.table.embargoed ∙ whole.embargoes;
        files = sized.files;
        sides = sized.sides;
        copies = sized.copies;
        held = sized.held;
        dirty = sized.dirty;
      }

  -- after a crash no client has reported
  none_reported : (l : List Bool) → length l ≡ max_clients → (i : ℕ) → i < n → get_or (filled n false l) i false ≡ false
  none_reported l long i hi =
      get_d_stored n (λ j. j) (λ j. false) l false i hi (rw long (client_fits most hi)) (λ k less below. omega arith)

  -- the same embargoes as the old server has
  module _ (aside : (i : ℕ) → i < n → is_embargoed embargoed i ≡ embargoed_at s i) where
    pub embargo-alike : (i : ℕ) → i < n → embargoed_at moved i ≡ embargoed_at s i
    embargo-alike i hi =
        get_d_stored n (λ j. j) (is_embargoed embargoed) v.table.embargoed false i hi
        (rw whole.embargoes (client_fits most hi))
        (λ k less below. omega arith)
        ∙ aside i hi

    in-alike : (j : ℕ) → is_in z moved j ≡ is_in z s j
    in-alike j =
        split (ltb j n) (λ e. rw e (ap not (embargo-alike j (ltb-true j n e)))) (λ e. rw e)

    heard-alike : heard_of z moved ≡ heard_of z crashed_s
    heard-alike =
        fun_ext
        (λ i.
        split (ltb i n)
        (λ e.
        let hi : i < n = ltb-true i n e in
        rw (
          e,
          none_reported v.table.reported whole.reports i hi,
          none_reported (table_in s).reported sized.reports i hi,
          embargo-alike i hi,
        ))
        (λ e. rw e))

  -- the same blocks as the old server has
  block_alike :
      (f b : ℕ)
      → f < z.files
      → b < z.blocks
      → get_or blocks (place f b) 0 ≡ block_at s f b
      → block_at moved f b ≡ block_at s f b
  block_alike f b hf hb value =
      taken_place 0 z.blocks most.blocks blocks v.blocks whole.places z.files most.files f b hb
      ∙ when _ _ (lt-ltb f z.files hf)
      ∙ value

  -- the same used blocks, blocks and embargoes as the old server has: the store holds what it held
  module _
      (room : Kept s)
      (marks : (f b : ℕ) → f < z.files → b < z.blocks → get_or used (place f b) false ≡ used_at s f b)
      (values : (f b : ℕ) → f < z.files → b < z.blocks → get_or blocks (place f b) 0 ≡ block_at s f b)
      (aside : (i : ℕ) → i < n → is_embargoed embargoed i ≡ embargoed_at s i) where
    abbrev used_now : List Bool
    used_now = moved.server.used

    used-alike : (f b : ℕ) → f < z.files → b < z.blocks → used_at moved f b ≡ used_at s f b
    used-alike f b hf hb =
        taken_place false z.blocks most.blocks used v.used whole.flags z.files most.files f b hb
        ∙ when _ _ (lt-ltb f z.files hf)
        ∙ marks f b hf hb

    stored : KeptIn z (is_within s) (is_known s) s.server.used s.server.free s.server.blocks s.dirty
    stored =
        subst
        (λ (y : Sizes).
        KeptIn y (is_within s) (is_known s) s.server.used s.server.free s.server.blocks s.dirty)
        sized.sizes room

    -- what is counted of some clients without embargo has its place
    has-place :
        (who : ℕ → Bool)
        → ((i : ℕ) → i < n → who i ≡ true → is_within s i ≡ true)
        → counted_in z who used_now s.dirty ≤ z.store
    has-place who part =
        let fewer : counted_in z who used_now s.dirty ≤ counted_in z (is_within s) s.server.used s.dirty =
        shrinks_counted z (is_within s) s.server.used s.dirty who used_now s.dirty
        (λ f b hf hb e.
        counted_cases n who used_now s.dirty f b e
        (λ is. used_counted n (is_within s) s.server.used s.dirty f b (sym (used-alike f b hf hb) ∙ is))
        (λ i hi has d. dirty_counted n (is_within s) s.server.used s.dirty f b i hi (part i hi has) d)) in
        omega (arith, fewer, stored.fits)

    -- nobody has reported
    none-known : (i : ℕ) → i < n → is_known moved i ≡ false
    none-known i hi =
        ap (λ t. is_within moved i && t) (none_reported v.table.reported whole.reports i hi)
        ∙ and_false (is_within moved i)

    few-used : used_in z used_now ≤ z.store
    few-used =
        let all : counted_in z (λ i. false) used_now s.dirty ≡ used_in z used_now =
        none_counted z (λ i. false) used_now s.dirty (λ i hi. refl) in
        omega (arith, all, has-place (λ i. false) (λ i hi e. conflict e refl))

    pub moved-kept : Kept moved
    moved-kept =
        subst⁻¹
        (λ (y : Sizes).
        KeptIn y (is_within moved) (is_known moved) used_now moved.server.free moved.server.blocks s.dirty)
        sized.sizes
        (record {
          flags = length_taken false z.blocks most.blocks used v.used whole.flags z.files;
          words = sized_moved.words;
          fits = has-place (is_within moved) (λ i hi e. sym (ap not (embargo-alike aside i hi)) ∙ e);
          makes =
              rw (
                none_counted z (is_known moved) used_now s.dirty none-known,
                reads_own_lem z.store (z.store - used_in z used_now) (omega arith),
              )
              (omega (arith, few-used));
          unused = λ f b hf hb e.
              block_alike f b hf hb (values f b hf hb) ∙ stored.unused f b hf hb (sym (used-alike f b hf hb) ∙ e);
        })

  -- the same versions, blocks and embargoes as the old server has, and as many records and calls
  module _
      (versions : (f : ℕ) → f < z.files → as_read (entry_of entries f).version ≡ (entry_at s f).version)
      (values : (f b : ℕ) → f < z.files → b < z.blocks → get_or blocks (place f b) 0 ≡ block_at s f b)
      (aside : (i : ℕ) → i < n → is_embargoed embargoed i ≡ embargoed_at s i)
      (records : (f : ℕ) → f < z.files → length (seen n (entry_at s f)).records ≡ n)
      (calls : (f : ℕ) → f < z.files → length (seen n (entry_at s f)).calls ≡ n) where
    stored_entry : (f : ℕ) → f < z.files → entry_at moved f ≡ with_version (entry_of (table_in crashed_o).files f) (as_read (entry_of entries f).version)
    stored_entry f hf =
        get_d_stored z.files (λ f. f) (λ f. with_version (entry_of (table_in crashed_o).files f) (as_read (entry_of entries f).version))
        (table_in crashed_o).files no_entry f hf
        (rw step_o.sized.entries (file_fits most hf))
        (λ k less below. omega arith)

    few : n ≤ max_clients
    few = most.clients

    entry-alike : (f : ℕ) → f < z.files → seen n (entry_at moved f) ≡ crashed_entry n (seen n (entry_at s f))
    entry-alike f hf =
        let e = entry_of v.table.files f in
        let inside : f < max_files = file_fits most hf in
        let long : length (take n e.records) ≡ n = length-take-le n e.records (rw (whole.records f inside) few) in
        let long-calls : length (take n e.calls) ≡ n = length-take-le n e.calls (rw (whole.calls f inside) few) in
        ap (seen n) (stored_entry f hf)
        ∙ ap (λ (x : Entry). with_version x (as_read (entry_of entries f).version)) (ap (λ (x : View). x.entry) (step_o.everywhere f 0 hf))
        ∙ (λ k.
        record {
          records = filled_alike n not_open not_open (take n e.records) (take n (entry_at s f).records) long (records f hf) k;
          version = versions f hf k;
          last = nobody;
          waiter = nobody;
          mode = Read;
          calls = filled_alike n 0 0 (take n e.calls) (take n (entry_at s f).calls) long-calls (calls f hf) k;
        })

    seen_alike : (f : ℕ) → f < z.files → seen n (entry_at moved f) ≡ seen n (entry_at crashed_s f)
    seen_alike f hf = entry-alike f hf ∙ sym (ap (λ (x : View). x.entry) (step_s.everywhere f 0 hf))

    pub view-alike : (f b : ℕ) → f < z.files → b < z.blocks → view_of z moved f b ≡ view_of z crashed_s f b
    view-alike f b hf hb =
        same_view
        (seen_alike f hf)
        (block_alike f b hf hb (values f b hf hb))
        (λ j. ap (λ t. cond t (client_at s j f) no_client) (in-alike aside j))
        (λ j. ap (λ t. cond t (copy_at s j f b) 0) (in-alike aside j))
        (λ j. ap (λ t. cond t (held_at s j f b) false) (in-alike aside j))
        (λ j. ap (λ t. cond t (dirty_at s j f b) false) (in-alike aside j))

    pub moved-recovers :
        (Recovering : View → History → (ℕ → Bool) → Row → Type 0) (m : Memory) (t : List Row)
        → Recovers z Recovering crashed_s m t
        → Recovers z Recovering moved m t
    moved-recovers Recovering m t h =
        record {
          sized = sized_moved;
          state = refl;
          rows = h.rows;
          views = λ f b hf hb.
              subst⁻¹ (λ (heard : ℕ → Bool). Recovering (view_of z moved f b) (m f b) heard (row_in z t f)) (heard-alike aside)
              (subst⁻¹ (λ (x : View). Recovering x (m f b) (heard_of z crashed_s) (row_in z t f)) (view-alike f b hf hb) (h.views f b hf hb));
        }

    -- the standby has nothing of a client under embargo either
    pub moved-forgotten : Forgotten crashed_s → Forgotten moved
    moved-forgotten h =
        forgotten_by sized_moved
        (λ f hf i hi out.
        unknown_seen n i (entry_at crashed_s f) (entry_at moved f) hi (seen_alike f hf)
        (entries_of sized_crashed h f hf i hi (sym (embargo-alike aside i hi) ∙ out)))
        (record {
          aside = λ i hi out. none_reported v.table.reported whole.reports i hi;
          running = λ runs. conflict refl runs;
        })

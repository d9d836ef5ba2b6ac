-- Crash, report and end change the whole table: every view as the protocol says. It leads to the invariant of the
-- whole service. Assumes nothing.
use Prim.Native.Nat.{ℕ, ◌<◌}
use mathlib.Core.Path.{◌≡◌, refl, ap, ◌∙◌, fun_ext}
use mathlib.Core.Bool.{Bool, true, false, ◌&&◌, ◌||◌}
use mathlib.Core.List.{List}
use native.Mathlib.Omega.{arith}
use lib.Dec.{eqb, ltb}
use lib.ListN.{length, get_or, set, length-set}
use lib.Seq.{get_or-set_same, get_or-set_other}
use borrow.Author.Tests.{eqb-true, eqb-false, lt-ltb, ltb-true}
use Rattle.sizes.specs.declared.sizes.Sizes.{Sizes}
use Rattle.sizes.specs.Sizes.{max_clients, max_files, Permitted}
use Rattle.decision.specs.Lists.{stored, filled}
use Rattle.sizes.proofs.InForce.{client_fits, file_fits}
use Rattle.decision.proofs.Storing.{length_stored, get_d_stored}
use Rattle.protocol.specs.declared.entry.Entry.{Entry}
use Rattle.protocol.specs.Entry.{crashed_entry, reported_entry}
use Rattle.protocol.specs.Client.{no_client}
use Rattle.protocol.specs.Table.{seen}
use Rattle.protocol.proofs.Seen.{crashed_seen, reported-seen}
use Rattle.protocol.proofs.View.{View, at, with_entry, crashed_view, reported_view}
use Rattle.table.specs.declared.table.Table.{Table}
use Rattle.table.specs.TableStep.{no_entry, crashed, reported, ended}
use Rattle.service.specs.declared.service.Service.{Service}
use Rattle.service.specs.Contents.{table_in, entry_at, embargoed_at, client_at, with_table}
use Rattle.service.proofs.Tests.{split, both}
use Rattle.service.proofs.Views.{Sized, In, is_in, is_out, outside, view_of, heard_of, client_is}

-- From s to s' every view v becomes w v, and these are the clients that the server has heard then.
pub record TableStep (z : Sizes) (s s' : Service) (reported : ℕ → Bool) (w : View → View) : Type 0 where
  pub sized : Sized z s'
  pub heard : heard_of z s' ≡ reported
  pub embargoes : (table_in s').embargoed ≡ (table_in s).embargoed
  pub everywhere : (f b : ℕ) → f < z.files → view_of z s' f b ≡ w (view_of z s f b)

sized_table :
    {z : Sizes} {s : Service} (t : Table)
    → Sized z s
    → length t.files ≡ max_files
    → length t.reported ≡ max_clients
    → length t.embargoed ≡ max_clients
    → Sized z (with_table s t)
sized_table t n e r x =
    record {
      sizes = n.sizes;
      entries = e;
      words = n.words;
      reports = r;
      embargoes = x;
      files = n.files;
      sides = n.sides;
      copies = n.copies;
      held = n.held;
      dirty = n.dirty;
    }

-- whom n clients' server has heard, once client i has reported
pub heard_set :
    (reports embargoes : List Bool) (n : ℕ) {i : ℕ}
    → i < n
    → (j : ℕ)
    → i < length reports
    → (ltb j n && (get_or (set reports i true) j false || get_or embargoes j false))
    ≡ at i true (λ k. ltb k n && (get_or reports k false || get_or embargoes k false)) j
heard_set reports embargoes n {i} below j room =
    split (eqb j i)
    (λ e. rw (e, eqb-true j i e, lt-ltb i n below, get_or-set_same reports i true false room))
    (λ e. rw (e, get_or-set_other reports i j true false (eqb-false j i e)))

module _ {z : Sizes} (most : Permitted z) {s : Service} (n : Sized z s) where
  -- the entry of every file is stored
  abbrev entries : (ℕ → Entry) → List Entry
  entries entry = stored z.files (λ f. f) entry (table_in s).files

  sized_entries : (entry : ℕ → Entry) → length (entries entry) ≡ max_files
  sized_entries entry = length_stored z.files (λ f. f) entry (table_in s).files ∙ n.entries

  stored_entry : (entry : ℕ → Entry) (f : ℕ) → f < z.files → get_or (entries entry) f no_entry ≡ entry f
  stored_entry entry f hf =
      get_d_stored z.files (λ g. g) entry (table_in s).files no_entry f hf (rw n.entries (file_fits most hf))
      (λ g above _. omega arith)

  -- no client has reported
  abbrev unreported : List Bool
  unreported = filled z.clients false (table_in s).reported

  sized_unreported : length unreported ≡ max_clients
  sized_unreported = length_stored z.clients (λ i. i) (λ i. false) (table_in s).reported ∙ n.reports

  -- so that those alone need not be heard that are under embargo
  abbrev pub aside : ℕ → Bool
  aside i = ltb i z.clients && embargoed_at s i

  -- of whom no view shows anything
  pub aside_blank : (f b i : ℕ) → aside i ≡ true → (view_of z s f b).client i ≡ no_client
  aside_blank f b i e =
      outside (is_in z s) no_client (λ j. client_at s j f) i
      (is_out z s i (both (ltb i z.clients) (embargoed_at s i) e).1)

  none_heard :
      ◌≡◌ {A = ℕ → Bool} (λ i. ltb i z.clients && (get_or unreported i false || embargoed_at s i)) aside
  none_heard =
      fun_ext
      (λ i.
      split (ltb i z.clients)
      (λ e.
      let below = ltb-true i z.clients e in
      rw (
        e,
        get_d_stored z.clients (λ j. j) (λ j. false) (table_in s).reported false i below
            (rw n.reports (client_fits most below)) (λ j above _. omega arith),
      ))
      (λ e. rw e))

  pub crash_step : TableStep z s (with_table s (crashed z (table_in s))) aside (crashed_view z.clients)
  crash_step =
      let m = z.clients in
      let entry : ℕ → Entry = λ f. crashed_entry m (entry_at s f) in
      record {
        sized = sized_table (crashed z (table_in s)) n (sized_entries entry) sized_unreported n.embargoes;
        heard = none_heard;
        embargoes = refl;
        everywhere = λ f b hf.
            ap (with_entry (view_of z s f b)) (ap (seen m) (stored_entry entry f hf) ∙ crashed_seen m (entry_at s f));
      }

  pub report_step :
      {i : ℕ}
      → In z s i
      → TableStep z s (with_table s (reported z (table_in s) s.clients i)) (at i true (heard_of z s))
      (λ v. reported_view v i)
  report_step {i} here =
      let m = z.clients in
      let hi : i < z.clients = here.below in
      let entry : ℕ → Entry = λ f. reported_entry (entry_at s f) i (client_at s i f) in
      let before : List Bool = (table_in s).reported in
      let room : i < length before = rw n.reports (client_fits most hi) in
      record {
        sized = sized_table (reported z (table_in s) s.clients i) n (sized_entries entry)
            (length-set before i true ∙ n.reports) n.embargoes;
        heard = fun_ext (λ j. heard_set before (table_in s).embargoed m hi j room);
        embargoes = refl;
        everywhere = λ f b hf.
            ap (with_entry (view_of z s f b))
            (ap (seen m) (stored_entry entry f hf)
            ∙ reported-seen m (entry_at s f) i hi (client_at s i f)
            ∙ ap (reported_entry (seen m (entry_at s f)) i) (client_is z s f b here));
      }

  pub end_step : TableStep z s (with_table s (ended z (table_in s))) aside (λ v. v)
  end_step =
      record {
        sized = sized_table (ended z (table_in s)) n n.entries sized_unreported n.embargoes;
        heard = none_heard;
        embargoes = refl;
        everywhere = λ f b hf. refl;
      }

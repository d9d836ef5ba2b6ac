-- The whole service in the lent arrays: what a step on a file, on a block and on the table leaves in them is what the
-- definition of the step makes of the service that they held, but for the store. Assumes nothing.
use Prim.Native.Nat.{ℕ, ◌%◌, ◌<◌, ◌≤◌, ◌+◌}
use mathlib.Core.Path.{◌≡◌, refl, sym, ap, ap₂, ◌∙◌, subst⁻¹}
use mathlib.Core.Bool.{Bool, true, false, not}
use mathlib.Core.List.{List}
use native.Mathlib.Nat.{mod-lt}
use native.Mathlib.Omega.{arith}
use lib.Dec.{eqb, leb, ltb}
use lib.ListN.{length, get_or, set, length-set}
use lib.Seq.{get_or-take}
use borrow.Author.Tests.{eqb-false, leb-true, ltb-true, not-false, ne_eqb}
use Rattle.std.specs.Prelude.{⊤, Err}
use Rattle.std.specs.declared.result.Result.{Result}
use Rattle.sizes.specs.declared.sizes.Sizes.{Sizes}
use Rattle.sizes.specs.Sizes.{max_clients, max_files, Permitted}
use Rattle.sizes.proofs.Choosing.{split, conflict, and_left, and_right}
use Rattle.decision.specs.Lists.{first_of}
use Rattle.protocol.specs.declared.client.ClientFile.{ClientFile}
use Rattle.protocol.specs.declared.client.Sides.{Sides}
use Rattle.protocol.specs.declared.reply.Reply.{Reply}
use Rattle.protocol.specs.declared.reply.Reply.TheVariants.{Refused}
use Rattle.protocol.specs.declared.reply.Reply.TheVariants.{Done}
use Rattle.protocol.specs.declared.shared.SharedFile.{SharedFile}
use Rattle.protocol.specs.Step.{Class}
use Rattle.protocol.specs.Step.{OnFile, OnBlock, OnTable}
use Rattle.protocol.specs.declared.step.Step.{Step}
use Rattle.protocol.specs.declared.step.Step.TheVariants.{Crash, Report, End}
use Rattle.protocol.specs.Client.{side_of}
use Rattle.protocol.specs.Entry.{crashed_entry, reported_entry}
use Rattle.protocol.specs.Reply.{letter_of, is_refused, no_calls, no_grants}
use Rattle.protocol.specs.Step.{class_of, client_of}
use Rattle.protocol.specs.declared.refusal.Refusal.{Refusal}
use Rattle.protocol.specs.Refused.{number_of, refusal_in}
use Rattle.protocol.proofs.Refused.{numbered, refused_by}
use Rattle.blocks.specs.declared.stores.Stores.{Stores}
use Rattle.access.specs.BlockStep.{block_step}
use Rattle.access.specs.BlockStep.{Leaves as LeavesBlock}
use Rattle.file.specs.FileStep.{FileAfter, file_step}
use Rattle.file.specs.Held.{Holds}
use Rattle.table.specs.declared.recovery.Recovery.{Recovery}
use Rattle.table.specs.declared.recovery.RecoveryOutcome.{RecoveryOutcome}
use Rattle.table.specs.declared.recovery.Sweep.{Sweep}
use Rattle.table.specs.declared.recovery.Sweep.TheVariants.{Stay, Report as Reports}
use Rattle.table.specs.Recovery.{kept, recovery_step}
use Rattle.table.specs.TableStep.{no_entry, no_sides, clashing, end_tests}
use Rattle.table.proofs.Steps.{recovery_in, reporter, refused_stays}
use Rattle.table.specs.Swept.{Swept, Sweeps as SweepsRows}
use Rattle.table.proofs.SweptRows.{swept_sides, swept_stay, swept_crash, swept_report}
use Rattle.words.specs.Said.{calls?}
use Rattle.words.specs.Words.{side_held}
use Rattle.words.specs.Rows.{listed, word_at, entry_held, sides_held, file_held, Puts}
use Rattle.words.proofs.Changing.{side_held_lem}
use Rattle.words.proofs.Listing.{get_d_listed, listed_set}
use Rattle.words.proofs.Places.{others_held}
use Rattle.service.specs.declared.service.Service.{Service}
use Rattle.service.specs.declared.outcome.Outcome.{Outcome}
use Rattle.service.specs.Contents.{table_in, file_at, with_file, client_at, reported_at, embargoed_at}
use Rattle.service.specs.Step.{file_outcome}
use Rattle.service.specs.Lent.{lent_flags, recovering_held, reported_held, embargoed_held, table_held, service_held, is_side, may_change}
use Rattle.service.specs.Lent.{may_report, used_held, free_held}
use Rattle.service.specs.Lent.{Keeps}
use Rattle.service.specs.Served.{reply_numbered, Moves, SweptBy}
use Rattle.service.proofs.Arms.Result.{file_result, block_result, table_result}
use Rattle.service.proofs.LentFlags.{flag_embargoed, flag_reported, used_kept, same_flags}

outcome_as :
    (s s' : Service) (r r' : Reply) (k k' : List ℕ)
    → s ≡ s'
    → r ≡ r'
    → k ≡ k'
    → ◌≡◌ {A = Outcome}
    (record { service = s; reply = r; calls = k; grants = no_grants })
    (record { service = s'; reply = r'; calls = k'; grants = no_grants })
outcome_as s s' r r' k k' a b c = rw (a, b, c)

-- a file put into its row is put into the service
pub puts_service :
    (given : Sizes) (flags : List Bool) (a₀ a : Stores) (f : ℕ) (x : SharedFile) (t₀ t : List ℕ)
    → f < max_files
    → Puts f x t₀ t
    → service_held given t flags a ≡ with_file (service_held given t₀ flags a₀) f x a
puts_service given flags a₀ a f x t₀ t there p =
    rw (
      listed_set max_files (λ g. entry_held t₀ g) (λ g. entry_held t g) f x.entry there
          (ap (λ (y : SharedFile). y.entry) p.here)
          (λ g lt off. ap (λ (y : SharedFile). y.entry) (others_held p g off)),
      listed_set max_files (λ g. sides_held t₀ g) (λ g. sides_held t g) f x.sides there
          (ap (λ (y : SharedFile). y.sides) p.here)
          (λ g lt off. ap (λ (y : SharedFile). y.sides) (others_held p g off)),
      p.beside max_files 0 (λ e. omega (arith, there, e)) (omega arith),
    )

-- the file that the service has is the one that the row holds
pub file_at_lem :
    (given : Sizes) (flags : List Bool) (a : Stores) (f : ℕ) (t : List ℕ)
    → f < max_files
    → file_at (service_held given t flags a) f ≡ file_held t f
file_at_lem given flags a f t there =
    rw (
      get_d_listed max_files (λ g. entry_held t g) no_entry f there,
      get_d_listed max_files (λ g. sides_held t g) no_sides f there,
    )

-- the flag of a client, at its wrapped place, is that of the client that stands there
abbrev pub flag_of : List Bool → ℕ → Bool
flag_of flags i = get_or flags (max_clients + 1 + i % max_clients) false

embargoed_at_lem :
    (given : Sizes) (t : List ℕ) (flags : List Bool) (a : Stores) (i : ℕ)
    → embargoed_at (service_held given t flags a) (i % max_clients) ≡ flag_of flags i
embargoed_at_lem given t flags a i = flag_embargoed flags (i % max_clients) (mod-lt i (omega arith))

-- ---- on a file

module _
    (takes full : Bool)
    (sizes : Sizes)
    (x : Step)
    (f : ℕ)
    (t₀ t : List ℕ)
    (flags : List Bool)
    (a₀ left : Stores)
    (reply : Reply)
    (calls : List ℕ)
    (class : class_of x ≡ OnFile f)
    (holds :
    Holds (file_step sizes (flag_of flags (client_of x)) (recovering_held flags) (file_held t₀ (f % max_files)) a₀ x) (f % max_files) t₀ t reply
    calls left) where
  file_keeps : Keeps x reply t₀ flags t flags
  file_keeps =
      record {
        refused = λ e. (holds.refused e, refl);
        words =
            λ g k there below stays.
            holds.puts.beside g k
            (eqb-false g (f % max_files) (ap (λ (class : Class). may_change class g k) (sym class) ∙ stays))
            below;
        reports = λ e. refl;
      }

  pub file_moves : (calls? (letter_of reply) ≡ false → calls ≡ no_calls) → Moves takes full sizes x t₀ flags a₀ t flags left reply calls
  file_moves quiet =
      let there : f % max_files < max_files = mod-lt f (omega arith) in
      record {
        long = holds.puts.long;
        flags_long = refl;
        taken =
            λ given force.
            let s = service_held given t₀ flags a₀ in
            let after : Bool → SharedFile → FileAfter = λ e y. file_step sizes e (recovering_held flags) y a₀ x in
            let held = after (flag_of flags (client_of x)) (file_held t₀ (f % max_files)) in
            outcome_as _ _ _ _ _ _
            (ap (λ (a : Stores). service_held given t flags a) holds.stores_after
            ∙ puts_service given flags a₀ held.stores (f % max_files) held.file t₀ t there holds.puts)
            holds.reply_after
            holds.calls_after
            ∙ ap₂ (λ (e : Bool) (y : SharedFile). file_outcome s (f % max_files) (after e y))
            (sym (embargoed_at_lem given t₀ flags a₀ (client_of x)))
            (sym (file_at_lem given flags a₀ (f % max_files) t₀ there))
            ∙ file_result takes full s x sizes force f class;
        quiet = quiet;
        keeps = file_keeps;
      }

-- ---- on a block

pub block_moves :
    (takes full : Bool) (sizes : Sizes) (x : Step) (i f : ℕ) (t : List ℕ) (flags : List Bool) (a₀ : Stores) (own : ClientFile)
    (left : Stores) (reply : Reply)
    → class_of x ≡ OnBlock i f
    → own ≡ side_held (word_at t (f % max_files) (10 + i % max_clients))
    → LeavesBlock (block_step sizes (flag_of flags i) (recovering_held flags) (get_or flags (i % max_clients) false) own takes full a₀ x) reply left
    → Moves takes full sizes x t flags a₀ t flags left reply no_calls
block_moves takes full sizes x i f t flags a₀ own left reply class is l =
    let file : f % max_files < max_files = mod-lt f (omega arith) in
    let client : i % max_clients < max_clients = mod-lt i (omega arith) in
    record {
      long = refl;
      flags_long = refl;
      taken =
          λ given force.
          let s = service_held given t flags a₀ in
          let side : client_at s (i % max_clients) (f % max_files) ≡ own =
          ap (λ (y : Sides). side_of y (i % max_clients)) (get_d_listed max_files (λ g. sides_held t g) no_sides (f % max_files) file)
          ∙ side_held_lem t (f % max_files) (i % max_clients) client
          ∙ sym is in
          let told : reported_at s (i % max_clients) ≡ get_or flags (i % max_clients) false =
          get_or-take max_clients flags (i % max_clients) false client in
          block_result takes full s x sizes force i f reply left class
          (rw (side, told, embargoed_at_lem given t flags a₀ i) l);
      quiet = λ e. refl;
      keeps =
          record { refused = λ e. (refl, refl); words = λ g k there below stays. refl; reports = λ e. refl };
    }

-- ---- on the table

-- a word of a side
is_side_lem : (k : ℕ) → not (is_side k) ≡ false → (10 ≤ k) × (k < 18)
is_side_lem k e =
    let side : is_side k ≡ true = not-false (is_side k) e in
    (leb-true 10 k (and_left (leb 10 k) (ltb k 18) side), ltb-true k 18 (and_right (leb 10 k) (ltb k 18) side))

-- whether the report of client i clashes, in the service that the arrays hold
abbrev pub clash_held : Sizes → List ℕ → List Bool → ℕ → Bool
clash_held sizes t flags i = clashing sizes (table_held t flags) (listed max_files (λ f. sides_held t f)) i

pub recovery_as :
    (v w : Recovery)
    → v.recovering ≡ w.recovering
    → v.reported ≡ w.reported
    → v.embargoed ≡ w.embargoed
    → v ≡ w
recovery_as v w a b c =
    ap₂ (λ (r : Bool) (l : List Bool). record { recovering = r; reported = l; embargoed = v.embargoed }) a b
    ∙ ap (λ (l : List Bool). record { recovering = w.recovering; reported = w.reported; embargoed = l }) c

module _
    (takes full : Bool)
    (sizes : Sizes)
    (x : Step)
    (t₀ t : List ℕ)
    (flags₀ flags : List Bool)
    (a : Stores)
    (v : Recovery)
    (o : RecoveryOutcome)
    (reply : Reply)
    (class : class_of x ≡ OnTable)
    (is : o ≡ recovery_step sizes v (clash_held sizes t₀ flags₀ (reporter x)) x)
    (recovers : v.recovering ≡ recovering_held flags₀)
    (reports : v.reported ≡ reported_held flags₀)
    (embargoes : v.embargoed ≡ embargoed_held flags₀)
    (size : length flags₀ ≡ lent_flags)
    (most : sizes.files ≤ max_files)
    (done : SweptBy sizes o t₀ flags₀ t flags reply) where
  -- a refusal leaves the rows, and stores the flags as they were
  refused_keeps : is_refused reply ≡ true → (t ≡ t₀) × (flags ≡ flags₀)
  refused_keeps e =
      let stays = refused_stays sizes v (clash_held sizes t₀ flags₀ (reporter x)) x (ap is_refused (ap (λ (o : RecoveryOutcome). o.reply) (sym is) ∙ sym done.same) ∙ e) in
      let rests : o.recovery ≡ v = ap (λ (o : RecoveryOutcome). o.recovery) is ∙ stays.1 in (
        done.rows.stays (ap (λ (o : RecoveryOutcome). o.sweep) is ∙ stays.0),
        same_flags flags flags₀ (done.flags_long ∙ size) size
            (done.recovers ∙ ap (λ (w : Recovery). w.recovering) rests ∙ recovers)
            (done.reports ∙ ap (λ (w : Recovery). w.reported) rests ∙ reports)
            (done.embargoes ∙ ap (λ (w : Recovery). w.embargoed) rests ∙ embargoes)
            done.used,
      )

  pub table_moves : Moves takes full sizes x t₀ flags₀ a t flags a reply no_calls
  table_moves =
      record {
        long = done.rows.long;
        flags_long = done.flags_long;
        taken =
            λ given force.
            let s = service_held given t₀ flags₀ a in
            let same : v ≡ recovery_in (table_in s) = recovery_as v (recovery_in (table_in s)) recovers reports embargoes in
            let free : free_held t ≡ free_held t₀ = done.rows.past max_files 0 most (omega arith) in
            outcome_as _ _ _ _ _ _
            (rw (swept_sides done.rows, done.recovers, done.reports, done.embargoes, done.used, free))
            done.same
            refl
            ∙ table_result takes full s x sizes force o (listed max_files (λ f. entry_held t f)) class
            (is ∙ ap (λ (w : Recovery). recovery_step sizes w (clash_held sizes t₀ flags₀ (reporter x)) x) same)
            done.rows.files;
        quiet = λ e. refl;
        keeps =
            record {
              refused = refused_keeps;
              words =
                  λ g k there below stays.
                  let (low, high) = is_side_lem k (ap (λ (class : Class). may_change class g k) (sym class) ∙ stays) in
                  done.rows.sides g k low high;
              reports = λ e. conflict refl (ap may_report (sym class) ∙ e);
            };
      }

-- a crash by itself
module _ (takes full : Bool) (sizes : Sizes) (t₀ t : List ℕ) (flags₀ flags : List Bool) (v : Recovery) (o : RecoveryOutcome) where
  pub crash_moves :
      (a : Stores)
      → Permitted sizes
      → ((clash : Bool) → o ≡ recovery_step sizes v clash Crash)
      → v.recovering ≡ recovering_held flags₀
      → v.reported ≡ reported_held flags₀
      → v.embargoed ≡ embargoed_held flags₀
      → length flags₀ ≡ lent_flags
      → SweepsRows sizes.files (λ f. crashed_entry sizes.clients (entry_held t₀ f)) t₀ t
      → recovering_held flags ≡ o.recovery.recovering
      → reported_held flags ≡ o.recovery.reported
      → embargoed_held flags ≡ o.recovery.embargoed
      → used_held flags ≡ used_held flags₀
      → length flags ≡ lent_flags
      → Moves takes full sizes Crash t₀ flags₀ a t flags a Done no_calls
  unfolding recovery_step
  crash_moves a p so recovers reports embargoes size rows recovers' reports' embargoes' used long =
      let is = so (clash_held sizes t₀ flags₀ 0) in
      table_moves takes full sizes Crash t₀ t flags₀ flags a v o Done refl is recovers reports embargoes size p.files
      (record {
        rows =
            subst⁻¹ (λ (s : Sweep). Swept sizes s t₀ t) (ap (λ (o : RecoveryOutcome). o.sweep) is)
            (swept_crash sizes p.files t₀ t rows);
        recovers = recovers';
        reports = reports';
        embargoes = embargoes';
        used = used;
        flags_long = long ∙ sym size;
        same = sym (ap (λ (o : RecoveryOutcome). o.reply) is);
      })

-- the state of the recovery that the flags hold
abbrev pub recovery_held : List Bool → Recovery
recovery_held flags =
    record { recovering = recovering_held flags; reported = reported_held flags; embargoed = embargoed_held flags }

-- a step that is refused
pub refused_moves :
    (takes full : Bool) (sizes : Sizes) (x : Step) (t : List ℕ) (flags : List Bool) (a : Stores) (k : ℕ)
    → class_of x ≡ OnTable
    → Permitted sizes
    → length flags ≡ lent_flags
    → recovery_step sizes (recovery_held flags) (clash_held sizes t flags (reporter x)) x ≡ kept (recovery_held flags) (Refused k)
    → Moves takes full sizes x t flags a t flags a (Refused k) no_calls
refused_moves takes full sizes x t flags a k class p size is =
    table_moves takes full sizes x t t flags flags a (recovery_held flags) (kept (recovery_held flags) (Refused k)) (Refused k) class
    (sym is) refl refl refl size p.files
    (record {
      rows = swept_stay sizes t;
      recovers = refl;
      reports = refl;
      embargoes = refl;
      used = refl;
      flags_long = refl;
      same = refl;
    })

-- the reply to a refusal
pub refused_numbered : (r : Refusal) → reply_numbered (number_of r) ≡ Refused (number_of r)
refused_numbered r = rw (ne_eqb (number_of r) 0 (numbered r))

-- a report that is taken
abbrev pub heard : ℕ → List Bool → RecoveryOutcome
heard i flags =
    record {
      recovery =
          record {
            recovering = recovering_held flags;
            reported = set (reported_held flags) i true;
            embargoed = embargoed_held flags;
          };
      reply = Done;
      sweep = Reports i;
    }

module _ (takes full : Bool) (sizes : Sizes) (i : ℕ) (t₀ t : List ℕ) (flags : List Bool) where
  pub report_moves :
      (a : Stores)
      → Permitted sizes
      → i < max_clients
      → length flags ≡ lent_flags
      → recovery_step sizes (recovery_held flags) (clash_held sizes t₀ flags i) (Report i) ≡ heard i flags
      → SweepsRows sizes.files (λ f. reported_entry (entry_held t₀ f) i (side_of (sides_held t₀ f) i)) t₀ t
      → Moves takes full sizes (Report i) t₀ flags a t (set flags i true) a Done no_calls
  report_moves a p below size is rows =
      let (recovers, reports, embargoes) = flag_reported flags i size below in
      table_moves takes full sizes (Report i) t₀ t flags (set flags i true) a (recovery_held flags) (heard i flags) Done refl
      (sym is) refl refl refl size p.files
      (record {
        rows = swept_report sizes p.files t₀ t i rows;
        recovers = recovers;
        reports = reports;
        embargoes = embargoes;
        used = used_kept flags i true (omega (arith, below));
        flags_long = length-set flags i true;
        same = refl;
      })

-- the end of a recovery, where it is refused
pub end_refused :
    (takes full : Bool) (sizes : Sizes) (t : List ℕ) (flags : List Bool) (v : Recovery) (a : Stores) {r : Result ⊤ Refusal} {refusal : Refusal}
    → Permitted sizes
    → length flags ≡ lent_flags
    → v ≡ recovery_held flags
    → refusal_in r ≡ first_of (end_tests sizes v.recovering v.reported v.embargoed)
    → r ≡ Err refusal
    → Moves takes full sizes End t flags a t flags a (reply_numbered (number_of refusal)) no_calls
unfolding recovery_step
end_refused takes full sizes t flags v a {r} {refusal} p size held told is =
    subst⁻¹ (λ (y : Reply). Moves takes full sizes End t flags a t flags a y no_calls) (refused_numbered refusal)
    (refused_moves takes full sizes End t flags a (number_of refusal) refl p size
    (refused_by (end_tests sizes (recovering_held flags) (reported_held flags) (embargoed_held flags))
    (λ k. kept (recovery_held flags) (Refused k)) _
    (told ∙ ap (λ (w : Recovery). first_of (end_tests sizes w.recovering w.reported w.embargoed)) held)
    is))

-- and where it is done
module _ (takes full : Bool) (sizes : Sizes) (t : List ℕ) (flags₀ flags : List Bool) (v : Recovery) (o : RecoveryOutcome) where
  end_stays : (clash : Bool) → (recovery_step sizes v clash End).sweep ≡ Stay
  unfolding recovery_step
  end_stays clash =
      split (eqb (first_of (end_tests sizes v.recovering v.reported v.embargoed)) 0) (λ e. rw e) (λ e. rw e)

  end_done :
      (clash : Bool)
      → 0 ≡ first_of (end_tests sizes v.recovering v.reported v.embargoed)
      → (recovery_step sizes v clash End).reply ≡ Done
  unfolding recovery_step
  end_done clash told = rw (← told)

  pub end_moves :
      (a : Stores)
      → Permitted sizes
      → ((clash : Bool) → o ≡ recovery_step sizes v clash End)
      → v.recovering ≡ recovering_held flags₀
      → v.reported ≡ reported_held flags₀
      → v.embargoed ≡ embargoed_held flags₀
      → length flags₀ ≡ lent_flags
      → recovering_held flags ≡ o.recovery.recovering
      → reported_held flags ≡ o.recovery.reported
      → embargoed_held flags ≡ o.recovery.embargoed
      → used_held flags ≡ used_held flags₀
      → length flags ≡ lent_flags
      → 0 ≡ first_of (end_tests sizes v.recovering v.reported v.embargoed)
      → Moves takes full sizes End t flags₀ a t flags a Done no_calls
  end_moves a p so recovers reports embargoes size recovers' reports' embargoes' used long told =
      let clash = clash_held sizes t flags₀ 0 in
      let is = so clash in
      table_moves takes full sizes End t t flags₀ flags a v o Done refl is recovers reports embargoes size p.files
      (record {
        rows =
            subst⁻¹ (λ (s : Sweep). Swept sizes s t t) (ap (λ (o : RecoveryOutcome). o.sweep) is ∙ end_stays clash)
            (swept_stay sizes t);
        recovers = recovers';
        reports = reports';
        embargoes = embargoes';
        used = used;
        flags_long = long ∙ sym size;
        same = sym (ap (λ (o : RecoveryOutcome). o.reply) is ∙ end_done clash told);
      })

-- A line that is told: by the step that was taken, with what was seen before it; and what a loop has told after it.
-- Assumes nothing.
use Prim.Native.Nat.{ℕ, ◌+◌, ◌%◌, ◌≤◌, ◌<◌}
use mathlib.Core.Path.{◌≡◌, refl, sym, ap, subst, ◌∙◌}
use mathlib.Core.Bool.{Bool, true, false, cond, ◌&&◌, true≢false}
use mathlib.Core.List.{List}
use native.Mathlib.Omega.{arith}
use native.Mathlib.Nat.{mod-eq_of_lt}
use lib.Dec.{eqb, leb}
use lib.ListN.{length, get_or}
use Rattle.sizes.specs.declared.sizes.Sizes.{Sizes}
use Rattle.sizes.specs.Sizes.{max_clients, max_files, max_blocks, in_force, cell}
use Rattle.sizes.proofs.InForce.{in_force_permitted, client_fits, file_fits}
use Rattle.protocol.specs.declared.client.ClientFile.{ClientFile}
use Rattle.protocol.specs.declared.client.Sides.{Sides}
use Rattle.protocol.specs.declared.reply.Granting.{Granting}
use Rattle.protocol.specs.declared.reply.Reply.{Reply}
use Rattle.protocol.specs.declared.step.Numbers.{Numbers}
use Rattle.protocol.specs.declared.shared.SharedFile.{SharedFile}
use Rattle.protocol.specs.declared.step.Step.{Step}
use Rattle.protocol.specs.declared.step.Step.TheVariants.{Open, Close, Read, Write, Flush, Answer, Crash, Report, End}
use Rattle.protocol.specs.declared.step.Step.TheVariants.{Restart, Embargo, Lift}
use Rattle.protocol.specs.Client.{no_client, side_of}
use borrow.Author.Tests.{eqb-true, leb-false}
use Rattle.protocol.specs.Reply.{is_refused, no_calls, no_grants}
use Rattle.protocol.specs.Step.{numbers_of, client_of, file_of, block_of}
use Rattle.blocks.specs.declared.stores.Stores.{Stores}
use Rattle.table.specs.TableStep.{no_entry, no_sides, is_reported}
use Rattle.words.specs.Words.{side_held}
use Rattle.words.specs.Rows.{table_words, word_at, entry_held, sides_held, file_held}
use Rattle.words.specs.Said.{reply_said, calls_said, grants_said, Says}
use Rattle.words.proofs.Changing.{side_held_lem}
use Rattle.words.proofs.Listing.{get_d_listed}
use Rattle.service.specs.declared.service.Service.{Service}
use Rattle.service.specs.declared.outcome.Outcome.{Outcome}
use Rattle.service.specs.Contents.{sizes_of, table_in, entry_at, embargoed_at, sides_at, client_at}
use Rattle.service.specs.Step.{step_of}
use Rattle.service.specs.Lent.{service_held, Stepped}
use Rattle.service.specs.Demand3.{refused}
use Rattle.service.proofs.Speaking.{stepped_outcome}
use Rattle.service.proofs.Tests.{split, conflict}
use Rattle.stepfile.specs.declared.setting.NoSizes.TheVariants.{OutOfRange, Missing}
use Rattle.stepfile.specs.Setting.{setting_of, Setting}
use Rattle.stepfile.specs.Played.{refused_with, set_outcome, outcome_of}
use Rattle.reader.specs.FirstLine.{is_set}
use Rattle.stepfile.specs.Input.{read_at, line_of}
use Rattle.writer.specs.Buffer.{WroteIfRoom}
use Rattle.ledger.specs.declared.annotated.Annotated.{Annotated}
use Rattle.ledger.specs.declared.ledger.Ledger.{Ledger}
use Rattle.ledger.specs.declared.lines.Lines.{Lines}
use Rattle.ledger.specs.Ledger.{waiting_since, embargoed_since, lines_at, noted, told_of, may_cache, holds_block, is_aside}
use Rattle.ledger.specs.Ledger.{step_told, ledger_after}
use Rattle.ledger.specs.Refusals.{refusals_after}
use Rattle.ledger.specs.Wrapped.{wrapped_step}
use Rattle.ledger.specs.Annotated.{annotated_by, annotated_after}
use Rattle.ledger.proofs.Wrapping.{found-there, noted_wrapped}
use Rattle.sentences.specs.Scene.{aside_held, scene_held, whole_held, whole_of, kept_before}
use Rattle.sentences.specs.Explained.{said_of, besides_text, forgotten_text, is_embargo, sentence_of, no_step_text, setting_text, explained_text, explained_room, explained_line, explained_by}
use Rattle.sentences.proofs.Clashes.{clash_agree}
use Rattle.telling.specs.Lines.{can_tell}
use Rattle.telling.proofs.Reaching.{line_bytes, line_bytes_lem}
use Rattle.telling.specs.Reached.{Reached}
use Rattle.telling.proofs.LineByLine.{one_more}
use Rattle.explaining.specs.declared.tell.Seen.{Seen}
use Rattle.explaining.specs.Lines.{explaining, setting_at, state_held, TellsLine}
use Rattle.explaining.proofs.Scenes.{scene_by, clash_said, no_client_refused, said_alike}
use Rattle.explaining.proofs.Wholes.{kept_whole, kept_row, Alike, opened_agree, forgotten_agree}
use Rattle.std.proofs.Common.{Option, Some, None, Ok, Err}

-- ---- what is kept from before a step

-- the service that the arrays hold has it
module _ (z : Sizes) (t : List ℕ) (flags : List Bool) (a : Stores) (f : ℕ) (there : f < max_files) where
  entry_there : entry_held t f ≡ entry_at (service_held z t flags a) f
  entry_there = sym (get_d_listed max_files (λ g. entry_held t g) no_entry f there)

  sides_there : sides_held t f ≡ sides_at (service_held z t flags a) f
  sides_there = sym (get_d_listed max_files (λ g. sides_held t g) no_sides f there)

  own_there : (i : ℕ) → side_of (sides_held t f) i ≡ client_at (service_held z t flags a) i f
  own_there i = ap (λ (d : Sides). side_of d i) sides_there

  side_there : (i : ℕ) → i < max_clients → side_held (word_at t f (10 + i)) ≡ client_at (service_held z t flags a) i f
  side_there i h = sym (get_d_listed max_clients (λ j. side_held (word_at t f (10 + j))) no_client i h) ∙ own_there i

-- ---- a step that was taken

module _
    (fresh : Bool) (given sizes : Sizes) (sized : sizes ≡ in_force given) (n : ℕ) (x : Step) (q : Numbers)
    (is : q ≡ numbers_of x) (t₀ : List ℕ) (flags₀ : List Bool) (a₀ : Stores) (words₀ t : List ℕ) (flags : List Bool)
    (a : Stores) (words : List ℕ) (said : ℕ)
    (taken : Stepped given (Some x) t₀ flags₀ a₀ words₀ t flags a words said)
    (t-long : length t₀ ≡ table_words)
    (l₀ : Ledger) (b₀ before : List ℕ) (b_long : length b₀ ≡ table_words)
    (kept : before ≡ kept_before q.kind q.file t₀ b₀) (seen : Seen)
    (caching : seen.caching ≡ (side_held (word_at before (q.file % max_files) (10 + q.client % max_clients))).opens.caching)
    (told :
    seen.told
    ≡ told_of seen.caching a₀ l₀
    (q.client % max_clients) (q.file % max_files) (q.block % max_blocks))
    (holds :
    seen.holds
    ≡ get_or a₀.held (cell (q.client % max_clients) (q.file % max_files) (q.block % max_blocks)) false) where
  abbrev s : Service
  s = service_held given t₀ flags₀ a₀

  abbrev o : Outcome
  o = step_of s x

  -- the wrapped numbers
  abbrev i : ℕ
  i = client_of x % max_clients

  abbrev f : ℕ
  f = file_of x % max_files

  abbrev b : ℕ
  b = block_of x % max_blocks

  client_in_lem : i < max_clients
  client_in_lem = omega arith

  file_in_lem : f < max_files
  file_in_lem = omega arith

  outcome_is :
      ◌≡◌ {A = Outcome}
      (record {
        service = service_held given t flags a;
        reply = reply_said said words;
        calls = calls_said said words;
        grants = grants_said said words;
      })
      o
  outcome_is = stepped_outcome given x t₀ flags₀ a₀ words₀ t flags a words said taken

  service_is : service_held given t flags a ≡ o.service
  service_is = ap (λ (k : Outcome). k.service) outcome_is

  reply_is : reply_said said words ≡ o.reply
  reply_is = ap (λ (k : Outcome). k.reply) outcome_is

  calls_is : calls_said said words ≡ o.calls
  calls_is = ap (λ (k : Outcome). k.calls) outcome_is

  says : Says said words o.reply o.calls o.grants
  says = taken.says.says

  -- the row of the file, as it was
  row_is : file_held before f ≡ file_held t₀ f
  row_is =
      ap (λ (l : List ℕ). file_held l f) kept
      ∙ ap (λ (r : Numbers). file_held (kept_before r.kind r.file t₀ b₀) f) is
      ∙ kept_row t₀ b₀ t-long b_long (numbers_of x).kind (file_of x)

  sides_is : sides_held before f ≡ sides_at s f
  sides_is = ap (λ (y : SharedFile). y.sides) row_is ∙ sides_there given t₀ flags₀ a₀ f file_in_lem

  -- what was seen
  caching_is : seen.caching ≡ (client_at s i f).opens.caching
  caching_is =
      caching
      ∙ ap (λ (r : Numbers). (side_held (word_at before (r.file % max_files) (10 + r.client % max_clients))).opens.caching) is
      ∙ ap (λ (own : ClientFile). own.opens.caching)
      (sym (side_held_lem before f i client_in_lem) ∙ ap (λ (d : Sides). side_of d i) sides_is)

  found : refused s x ≡ false → (seen.told ≡ step_told s l₀ x) × (seen.caching ≡ may_cache s x) × (seen.holds ≡ holds_block s x)
  found ok =
      let (as-told, as-cached, as-held) = found-there s x ok l₀ in (
        told
            ∙ ap
            (λ (r : Numbers).
            told_of seen.caching a₀ l₀
            (r.client % max_clients) (r.file % max_files) (r.block % max_blocks))
            is
            ∙ ap
            (λ (c : Bool).
            told_of c a₀ l₀ i f b)
            caching_is
            ∙ as-told,
        caching_is ∙ as-cached,
        holds
            ∙ ap
            (λ (r : Numbers).
            get_or a₀.held (cell (r.client % max_clients) (r.file % max_files) (r.block % max_blocks)) false)
            is
            ∙ as-held,
      )

  -- the scene that the arrays hold
  abbrev lines : ℕ → ℕ → Lines
  lines = lines_at l₀

  abbrev held : List ℕ
  held =
      said_of fresh (scene_held sizes x before t flags₀ a.dirty l₀.since seen.told seen.caching)
      (whole_held before t lines) x o.calls o.reply

  -- whether the flags have the client under embargo
  aside_is : aside_held flags₀ (client_of x) ≡ embargoed_at s i
  aside_is = sym (get_d_listed max_clients (λ j. get_or flags₀ (max_clients + 1 + j) false) false i client_in_lem)

  scene_is :
      scene_held sizes x before t flags₀ a.dirty l₀.since seen.told seen.caching
      ≡ scene_by sizes (table_in s).reported (table_in s).embargoed s.server.used o.service.dirty (entry_at s f) (entry_at o.service f) (sides_at s f)
      (waiting_since l₀ f) (embargoed_at s i) (embargoed_since l₀ i) seen.told seen.caching
  scene_is =
      let came : entry_held before f ≡ entry_at s f =
      ap (λ (y : SharedFile). y.entry) row_is ∙ entry_there given t₀ flags₀ a₀ f file_in_lem in
      let after : entry_held t f ≡ entry_at o.service f =
      entry_there given t flags a f file_in_lem ∙ ap (λ (k : Service). entry_at k f) service_is in
      λ k.
      scene_by sizes (table_in s).reported (table_in s).embargoed s.server.used (service_is k).dirty (came k) (after k) (sides_is k) (waiting_since l₀ f)
      (aside_is k) (embargoed_since l₀ i) seen.told seen.caching

  -- a file in force, after the step
  module _ (g : ℕ) (below : g < (sizes_of s).files) where
    fits : g < max_files
    fits = file_fits (in_force_permitted given) below

    entry-after : entry_held t g ≡ entry_at o.service g
    entry-after = entry_there given t flags a g fits ∙ ap (λ (k : Service). entry_at k g) service_is

    side_after : (j : ℕ) → side_of (sides_held t g) j ≡ client_at o.service j g
    side_after j = own_there given t flags a g fits j ∙ ap (λ (k : Service). client_at k j g) service_is

  -- what a report that clashes is told by
  clashes :
      clash_said (sizes_of s) (table_in s).reported (whole_held before t lines) x
      ≡ clash_said (sizes_of s) (table_in s).reported (whole_of s l₀ x) x
  clashes =
      clash_agree (sizes_of s) (is_reported (table_in s).reported) (is_reported (table_in s).reported) (entry_held t)
      (entry_at o.service) (λ g. side_of (sides_held t g) (client_of x)) (λ g. client_at o.service (client_of x) g)
      (λ j h. refl) entry-after (λ g h. side_after g h (client_of x)) (client_of x)

  -- what a step on all files is told by
  module _ (on-all : leb 11 (numbers_of x).kind ≡ true) where
    all_kept : before ≡ t₀
    all_kept =
        kept
        ∙ ap (λ (r : Numbers). kept_before r.kind r.file t₀ b₀) is
        ∙ kept_whole t₀ b₀ t-long b_long (numbers_of x).kind (file_of x) on-all

    whole-alike : Alike (sizes_of s).files (whole_held before t lines) (whole_of s l₀ x)
    whole-alike =
        record {
          entry = λ g h. ap (λ (l : List ℕ). entry_held l g) all_kept ∙ entry_there given t₀ flags₀ a₀ g (fits g h);
          after = entry-after;
          side = λ j g h.
              ap (λ (l : List ℕ). side_of (sides_held l g) j) all_kept ∙ own_there given t₀ flags₀ a₀ g (fits g h) j;
          lines = refl;
        }

  looks : besides_text (sizes_of s) (whole_held before t lines) x ≡ besides_text (sizes_of s) (whole_of s l₀ x) x
  looks = looks-at x refl
    where
      looks-at : (y : Step) → x ≡ y
          → besides_text (sizes_of s) (whole_held before t lines) y ≡ besides_text (sizes_of s) (whole_of s l₀ x) y
      looks-at (Open m j g) e = refl
      looks-at (Close m j g) e = refl
      looks-at (Read j g c) e = refl
      looks-at (Write j g c v) e = refl
      looks-at (Flush j g c) e = refl
      looks-at (Answer j g) e = refl
      looks-at Crash e = refl
      looks-at (Report j) e = refl
      looks-at End e = refl
      looks-at (Restart j) e =
          forgotten_agree (sizes_of s) (whole_held before t lines) (whole_of s l₀ x) j
          (whole-alike (ap (λ (y : Step). leb 11 (numbers_of y).kind) e))
      looks-at (Embargo j g) e = refl
      looks-at (Lift j) e =
          opened_agree (sizes_of s) (whole_held before t lines) (whole_of s l₀ x) j
          (whole-alike (ap (λ (y : Step). leb 11 (numbers_of y).kind) e))

  forgets :
      is_embargo x ≡ true
      → forgotten_text (sizes_of s) (whole_held before t lines) (client_of x) ≡ forgotten_text (sizes_of s) (whole_of s l₀ x) (client_of x)
  forgets embargo =
      forgotten_agree (sizes_of s) (whole_held before t lines) (whole_of s l₀ x) (client_of x)
      (whole-alike (ap (leb 11) (eqb-true (numbers_of x).kind 12 embargo)))

  sentence_is : held ≡ sentence_of fresh s l₀ x
  unfolding sentence_of
  sentence_is =
      ap (λ c. said_of fresh c (whole_held before t lines) x o.calls o.reply) scene_is
      ∙ said_alike fresh s l₀ x sizes sized seen.told seen.caching (whole_held before t lines)
      (λ ok. ((found ok).0, (found ok).1)) clashes looks forgets

  -- a step that is taken names a client that is there, or none
  aside_found : refused s x ≡ false → aside_held flags₀ (client_of x) ≡ is_aside s x
  aside_found ok =
      aside_is
      ∙ split (leb (sizes_of s).clients (client_of x))
      (λ none. conflict (ap is_refused (no_client_refused s x none)) ok)
      (λ who.
      ap (embargoed_at s)
      (mod-eq_of_lt (client_fits (in_force_permitted given) (leb-false (sizes_of s).clients (client_of x) who))))

  pub step_told_lem :
      (refusals₀ out₀ : List ℕ) (at : ℕ) (l : Ledger) (refusals out : List ℕ) (at' : ℕ)
      → ((reply : Reply) (calls : List ℕ) (granted : List Granting)
      → Says said words reply calls granted
      → calls_said said words ≡ calls
      → WroteIfRoom explained_room out₀ at
      (explained_text n reply calls granted
      (said_of fresh (scene_held sizes x before t flags₀ a.dirty l₀.since seen.told seen.caching)
      (whole_held before t lines) x calls reply))
      out at')
      → at' ≤ at + explained_room
      → l
      ≡ noted n (wrapped_step x) (reply_said said words) seen.caching seen.holds (aside_held flags₀ (client_of x)) l₀
      → refusals ≡ refusals_after (reply_said said words) refusals₀
      → (text : List ℕ)
      → TellsLine fresh (state_held given t₀ flags₀ a₀ l₀ refusals₀) n text (Some x) out₀ at (state_held given t flags a l refusals) out at'
  step_told_lem refusals₀ out₀ at l refusals out at' wrote most notes counts text =
      let ledger : l ≡ ledger_after n s x l₀ =
      notes
      ∙ ap (λ (r : Reply). noted n (wrapped_step x) r seen.caching seen.holds (aside_held flags₀ (client_of x)) l₀) reply_is
      ∙ noted_wrapped s x n seen.caching seen.holds (aside_held flags₀ (client_of x)) l₀
      (λ ok. ((found ok).1, (found ok).2)) (λ ok _. aside_found ok) in
      let counted : refusals ≡ refusals_after o.reply refusals₀ =
      counts ∙ ap (λ (r : Reply). refusals_after r refusals₀) reply_is in
      record {
        next = λ k. record { service = service_is k; ledger = ledger k; refusals = counted k };
        wrote =
            subst (λ (k : List ℕ). WroteIfRoom explained_room out₀ at (explained_text n o.reply o.calls o.grants k) out at')
            sentence_is
            (wrote o.reply o.calls o.grants says calls_is);
        most = most;
      }

-- ---- a line that gives no step

-- it is told by what it sets
module _ (fresh : Bool) (s : Service) (n : ℕ) (text : List ℕ) (x : Setting) (set : x ≡ setting_at fresh n text) where
  outcome_set : set_outcome s x ≡ outcome_of fresh s n text None
  outcome_set = ap (set_outcome s) set ∙ by (fresh && eqb n 1)
    where
      by : (first : Bool) → set_outcome s (cond first (setting_of text) (Err Missing)) ≡ cond first (set_outcome s (setting_of text)) (refused_with s 1)
      by true = refl
      by false = refl

  said_set : setting_text x ≡ cond (fresh && eqb n 1) (setting_text (setting_of text)) no_step_text
  said_set = ap setting_text set ∙ by (fresh && eqb n 1)
    where
      by : (first : Bool) → setting_text (cond first (setting_of text) (Err Missing)) ≡ cond first (setting_text (setting_of text)) no_step_text
      by true = refl
      by false = refl

  no_calls_lem : no_calls ≡ (set_outcome s x).calls
  no_calls_lem = by x
    where
      by : (y : Setting) → no_calls ≡ (set_outcome s y).calls
      by (Ok z) = refl
      by (Err OutOfRange) = refl
      by (Err Missing) = refl

  no_grants_lem : no_grants ≡ (set_outcome s x).grants
  no_grants_lem = by x
    where
      by : (y : Setting) → no_grants ≡ (set_outcome s y).grants
      by (Ok z) = refl
      by (Err OutOfRange) = refl
      by (Err Missing) = refl

  pub set_told :
      (l : Ledger) (s' : Service) (reply : Reply) (refusals₀ refusals out₀ : List ℕ) (at : ℕ) (out : List ℕ) (at' : ℕ)
      → s' ≡ (set_outcome s x).service
      → reply ≡ (set_outcome s x).reply
      → WroteIfRoom explained_room out₀ at (explained_text n reply no_calls no_grants (setting_text x)) out at'
      → at' ≤ at + explained_room
      → refusals ≡ refusals_after reply refusals₀
      → TellsLine fresh (record { service = s; ledger = l; refusals = refusals₀ }) n text None out₀ at
      (record { service = s'; ledger = l; refusals = refusals }) out at'
  set_told l s' reply refusals₀ refusals out₀ at out at' goes replies wrote most counts =
      let o : Outcome = outcome_of fresh s n text None in
      let outcome : ◌≡◌ {A = Outcome} (record { service = s'; reply = reply; calls = no_calls; grants = no_grants }) o =
      (λ k. record { service = goes k; reply = replies k; calls = no_calls_lem k; grants = no_grants_lem k }) ∙ outcome_set in
      let counted : refusals ≡ refusals_after o.reply refusals₀ =
      counts ∙ ap (λ (o : Outcome). refusals_after o.reply refusals₀) outcome in
      record {
        next = λ k. record { service = (outcome k).service; ledger = l; refusals = counted k };
        wrote =
            subst
            (λ (t : List ℕ). WroteIfRoom explained_room out₀ at (explained_text n o.reply o.calls o.grants t) out at')
            said_set
            (subst
            (λ (o : Outcome).
            WroteIfRoom explained_room out₀ at (explained_text n o.reply o.calls o.grants (setting_text x)) out at')
            outcome
            wrote);
        most = most;
      }

-- a line that does not choose the sizes sets nothing
pub sets_nothing : (fresh : Bool) (n : ℕ) (text : List ℕ) → ((fresh && eqb n 1) && is_set (setting_of text)) ≡ false → (Err Missing) ≡ setting_at fresh n text
sets_nothing fresh n text plain = sym (by (fresh && eqb n 1) plain)
  where
    unset : (x : Setting) → is_set x ≡ false → x ≡ (Err Missing)
    unset (Ok z) e = absurd (true≢false e)
    unset (Err OutOfRange) e = absurd (true≢false e)
    unset (Err Missing) e = refl

    by : (first : Bool) → (first && is_set (setting_of text)) ≡ false → cond first (setting_of text) (Err Missing) ≡ (Err Missing)
    by true e = unset (setting_of text) e
    by false e = refl

-- ---- one line more: it was read, and told

pub line_told :
    (fresh : Bool) (s₀ : Annotated) (first : ℕ) (input out₀ : List ℕ) (s : Annotated) (number used to : ℕ) (out₁ : List ℕ)
    (p : Option Step) (next : ℕ) (s' : Annotated) (to' : ℕ) (out₂ : List ℕ)
    → Reached (explaining fresh) s₀ first input out₀ s number used to out₁
    → read_at input used ≡ line_of p next
    → can_tell explained_room (length out₁) to number ≡ true
    → TellsLine fresh s number (line_bytes input used next) p out₁ to s' out₂ to'
    → Reached (explaining fresh) s₀ first input out₀ s' (number + 1) next to' out₂
unfolding explained_line annotated_after
line_told fresh s₀ first input out₀ s number used to out₁ p next s' to' out₂ w e can told =
    one_more (explaining fresh) s₀ first input out₀ s number used to out₁ p next s'
    (explained_by fresh s number (line_bytes input used next) p)
    to'
    out₂
    w
    e
    can
    (λ l at gives.
    let line = line_bytes_lem input used next l at in (
      told.next
          ∙ ap (λ (x : List ℕ). annotated_by fresh s number x p) line
          ∙ ap (annotated_by fresh s number l) (sym gives),
      ap (λ (x : List ℕ). explained_by fresh s number x p) line ∙ ap (explained_by fresh s number l) (sym gives),
    ))
    told.wrote
    told.most

-- The service that lent arrays hold, and what a step leaves in them. Any words and flags hold some service.
use Rattle.std.specs.Prelude.{ℕ, ◌+◌, ◌*◌, ◌%◌, ◌/◌, ◌<◌, ◌≤◌, ◌≡◌, Bool, true, false, not, ◌&&◌, List, Option, Some, None, eqb}
use Rattle.std.specs.Prelude.{leb, ltb, length, get_or, take, drop}
use Rattle.sizes.specs.declared.sizes.Sizes.{Sizes}
use Rattle.sizes.specs.Sizes.{max_clients, max_files, max_places}
use Rattle.protocol.specs.declared.reply.Reply.{Reply}
use Rattle.protocol.specs.declared.reply.Reply.TheVariants.{Refused}
use Rattle.protocol.specs.Step.{Class}
use Rattle.protocol.specs.Step.{OnFile, OnBlock, OnTable, OnAll}
use Rattle.protocol.specs.declared.step.Step.{Step}
use Rattle.protocol.specs.Reply.{is_refused, no_calls, no_grants}
use Rattle.protocol.specs.Step.{class_of}
use Rattle.blocks.specs.declared.stores.Stores.{Stores}
use Rattle.table.specs.declared.table.Table.{Table}
use Rattle.words.specs.Rows.{listed, row_words, word_at, entry_held, sides_held}
use Rattle.words.specs.Said.{said_room, calls_said, SaysIn}
use Rattle.service.specs.declared.service.Service.{Service}
use Rattle.service.specs.declared.outcome.Outcome.{Outcome}
use Rattle.service.specs.Step.{step_of}

-- the flags: who has reported, after them whether the server recovers, then who is under embargo, and last which blocks
-- are used
abbrev pub state_flags : ℕ
state_flags = 2 * max_clients + 1

abbrev pub lent_flags : ℕ
lent_flags = state_flags + max_places

abbrev pub recovering_held : List Bool → Bool
recovering_held flags = get_or flags max_clients false

abbrev pub reported_held : List Bool → List Bool
reported_held flags = take max_clients flags

abbrev pub embargoed_held : List Bool → List Bool
embargoed_held flags = listed max_clients (λ i. get_or flags (max_clients + 1 + i) false)

abbrev pub used_held : List Bool → List Bool
used_held flags = drop state_flags flags

-- the word after the rows: how many places are free
abbrev pub free_held : List ℕ → ℕ
free_held t = word_at t max_files 0

abbrev pub table_held : List ℕ → List Bool → Table
table_held t flags =
    record {
      files = listed max_files (λ f. entry_held t f);
      recovering = recovering_held flags;
      reported = reported_held flags;
      embargoed = embargoed_held flags;
    }

abbrev pub service_held : Sizes → List ℕ → List Bool → Stores → Service
service_held z t flags a =
    record {
      sizes = z;
      server = record { table = table_held t flags; blocks = a.blocks; used = used_held flags; free = free_held t };
      clients = listed max_files (λ f. sides_held t f);
      copies = a.copies;
      held = a.held;
      dirty = a.dirty;
    }

-- "1 the line isn't a step": what the service makes of a step, and of none
abbrev pub outcome_of : Service → Option Step → Outcome
outcome_of s (Some x) = step_of s x
outcome_of s None = record { service = s; reply = Refused 1; calls = no_calls; grants = no_grants }

-- ---- what a step leaves

-- the words of the clients' sides in a row
abbrev pub is_side : ℕ → Bool
is_side k = leb 10 k && ltb k 18

-- the words that a step may change: one on a file those of its row, one on a block none, one on the table those of the
-- entries, one on all files any
abbrev pub may_change : Class → ℕ → ℕ → Bool
may_change (OnFile f) g k = eqb g (f % max_files)
may_change (OnBlock i f) g k = false
may_change OnTable g k = not (is_side k)
may_change OnAll g k = true

-- whether it may change who has reported, whether the server recovers, and who is under embargo
abbrev pub may_report : Class → Bool
may_report (OnFile f) = false
may_report (OnBlock i f) = false
may_report OnTable = true
may_report OnAll = true

-- "A refusal gives only its number; server, stations and every lent buffer stay as they came." What a step does not
-- touch stays too, word for word.
pub record Keeps (x : Step) (reply : Reply) (t₀ : List ℕ) (flags₀ : List Bool) (t : List ℕ) (flags : List Bool) : Type 0 where
  pub refused : is_refused reply ≡ true → (t ≡ t₀) × (flags ≡ flags₀)
  pub words : (g k : ℕ) → g < max_files → k < row_words → may_change (class_of x) g k ≡ false → word_at t g k ≡ word_at t₀ g k
  pub reports : may_report (class_of x) ≡ false → take state_flags flags ≡ take state_flags flags₀

-- where there is no step, all stays
abbrev pub KeepsAfter : Option Step → Reply → List ℕ → List Bool → List ℕ → List Bool → Type 0
KeepsAfter (Some x) reply t₀ flags₀ t flags = Keeps x reply t₀ flags₀ t flags
KeepsAfter None reply t₀ flags₀ t flags = (t ≡ t₀) × (flags ≡ flags₀)

-- The step, if there is one, is taken: the service that is held is that which it makes of the one that was held, and its
-- reply and its calls are said.
pub record Stepped
    (given : Sizes) (x : Option Step) (t₀ : List ℕ) (flags₀ : List Bool) (a₀ : Stores) (words₀ t : List ℕ)
    (flags : List Bool) (a : Stores) (words : List ℕ) (said : ℕ) : Type 0 where
  pub long : length t ≡ length t₀
  pub flags_long : length flags ≡ length flags₀
  pub words_long : length words ≡ length words₀
  pub short : said / 256 ≤ said_room
  pub service : service_held given t flags a ≡ (outcome_of (service_held given t₀ flags₀ a₀) x).service
  pub says :
      SaysIn words₀ said words
      (outcome_of (service_held given t₀ flags₀ a₀) x).reply
      (outcome_of (service_held given t₀ flags₀ a₀) x).calls
      (outcome_of (service_held given t₀ flags₀ a₀) x).grants
  pub calls : calls_said said words ≡ (outcome_of (service_held given t₀ flags₀ a₀) x).calls
  pub keeps : KeepsAfter x (outcome_of (service_held given t₀ flags₀ a₀) x).reply t₀ flags₀ t flags

-- What a step leaves, as the code finds it: by the sizes in force, with its reply as a value. Derived: the contract of
-- `take_step` does not mention it.
use Rattle.std.specs.Prelude.{ℕ, ◌+◌, ◌*◌, ◌%◌, ◌≤◌, ◌<◌, ◌≡◌, Bool, true, false, cond, ◌||◌, List, eqb, length, get_or}
use Rattle.sizes.specs.declared.sizes.Sizes.{Sizes}
use Rattle.sizes.specs.Sizes.{in_force}
use Rattle.protocol.specs.declared.reply.Reply.{Reply}
use Rattle.protocol.specs.declared.reply.Reply.TheVariants.{Granted, Waiting, Value, Refused, Answered}
use Rattle.protocol.specs.declared.reply.Reply.TheVariants.{AnsweredGrant, Done}
use Rattle.protocol.specs.declared.step.Step.{Step}
use Rattle.protocol.specs.Reply.{letter_of, is_refused, no_calls, no_grants}
use Rattle.decision.specs.Lists.{stored}
use Rattle.blocks.specs.declared.stores.Stores.{Stores}
use Rattle.table.specs.declared.recovery.RecoveryOutcome.{RecoveryOutcome}
use Rattle.table.specs.Swept.{Swept}
use Rattle.words.specs.Rows.{word_at}
use Rattle.words.specs.Said.{calls?, SaysIn, SaidSoFar}
use Rattle.service.specs.declared.outcome.Outcome.{Outcome}
use Rattle.service.specs.Embargo.{forgotten_below, grants_below, dropped_below}
use Rattle.service.specs.Step.{moved, step_of}
use Rattle.service.specs.Lent.{state_flags, recovering_held, reported_held, embargoed_held, used_held, service_held, Keeps}

-- the reply to a step on the table, by the number of its refusal; 0 is none
abbrev pub reply_numbered : ℕ → Reply
reply_numbered k = cond (eqb k 0) Done (Refused k)

-- how many blocks an answer tells that it sent
abbrev pub sent_in : Reply → ℕ
sent_in (Granted g) = 0
sent_in Waiting = 0
sent_in (Value v) = 0
sent_in (Refused k) = 0
sent_in (Answered n) = n
sent_in (AnsweredGrant n i g) = n
sent_in Done = 0

-- the flags with the n blocks from a place on used that were sent
abbrev pub marked : ℕ → ℕ → List Bool → List Bool → List Bool
marked n to sent flags =
    stored n (λ b. state_flags + to + b) (λ b. get_or flags (state_flags + to + b) false || get_or sent b false) flags

-- the words of a client's sides say nothing of the files from one on, below another
abbrev pub Silent : ℕ → ℕ → ℕ → List ℕ → Type 0
Silent i from to t = (f : ℕ) → from ≤ f → f < to → word_at t f (10 + i) % 4294967296 ≡ 0

-- the arrays hold the service that the step's definition makes of the one that they held, but for the store, for all sizes
-- given of which these are in force; `takes` and `full` tell of the store what the step must know
pub record Moves
    (takes full : Bool) (sizes : Sizes) (x : Step) (t₀ : List ℕ) (flags₀ : List Bool) (a₀ : Stores) (t : List ℕ)
    (flags : List Bool) (a : Stores) (reply : Reply) (calls : List ℕ) : Type 0 where
  pub long : length t ≡ length t₀
  pub flags_long : length flags ≡ length flags₀
  pub taken :
      (given : Sizes)
      → sizes ≡ in_force given
      → ◌≡◌ {A = Outcome}
      (record { service = service_held given t flags a; reply = reply; calls = calls; grants = no_grants })
      (moved takes full (service_held given t₀ flags₀ a₀) x)
  pub quiet : calls? (letter_of reply) ≡ false → calls ≡ no_calls
  pub keeps : Keeps x reply t₀ flags₀ t flags

-- the same with the store
pub record Serves
    (sizes : Sizes) (x : Step) (t₀ : List ℕ) (flags₀ : List Bool) (a₀ : Stores) (t : List ℕ) (flags : List Bool)
    (a : Stores) (reply : Reply) (calls : List ℕ) : Type 0 where
  pub long : length t ≡ length t₀
  pub flags_long : length flags ≡ length flags₀
  pub taken :
      (given : Sizes)
      → sizes ≡ in_force given
      → ◌≡◌ {A = Outcome}
      (record { service = service_held given t flags a; reply = reply; calls = calls; grants = no_grants })
      (step_of (service_held given t₀ flags₀ a₀) x)
  pub quiet : calls? (letter_of reply) ≡ false → calls ≡ no_calls
  pub keeps : Keeps x reply t₀ flags₀ t flags

-- the rows and the flags do what a step on the table tells
pub record SweptBy
    (sizes : Sizes) (done : RecoveryOutcome) (t₀ : List ℕ) (flags₀ : List Bool) (t : List ℕ) (flags : List Bool)
    (reply : Reply) : Type 0 where
  pub rows : Swept sizes done.sweep t₀ t
  pub recovers : recovering_held flags ≡ done.recovery.recovering
  pub reports : reported_held flags ≡ done.recovery.reported
  pub embargoes : embargoed_held flags ≡ done.recovery.embargoed
  pub used : used_held flags ≡ used_held flags₀
  pub flags_long : length flags ≡ length flags₀
  pub same : reply ≡ done.reply

-- the server has forgotten client i on the files below k: the service that the arrays hold, and the words in which the
-- grants are said so far, after the words `pre`; there are `at` words in all
pub record Forgets
    (sizes : Sizes) (i k : ℕ) (t₀ : List ℕ) (a₀ : Stores) (words₀ pre t : List ℕ) (a : Stores) (words : List ℕ) (at : ℕ)
    : Type 0 where
  pub long : length t ≡ length t₀
  pub few : at ≤ length pre + 4 * k
  pub service :
      (given : Sizes) (flags : List Bool)
      → service_held given t flags a ≡ forgotten_below sizes i k (service_held given t₀ flags a₀)
  pub said :
      (given : Sizes) (flags : List Bool)
      → SaidSoFar words₀ pre (grants_below sizes i k (service_held given t₀ flags a₀)) words
  pub count :
      (given : Sizes) (flags : List Bool)
      → at ≡ length pre + 4 * length (grants_below sizes i k (service_held given t₀ flags a₀))

-- client i has dropped what it had of the files below k
pub record Drops (sizes : Sizes) (i k : ℕ) (t₀ : List ℕ) (a₀ : Stores) (t : List ℕ) (a : Stores) : Type 0 where
  pub long : length t ≡ length t₀
  pub service :
      (given : Sizes) (flags : List Bool)
      → service_held given t flags a ≡ dropped_below sizes i k (service_held given t₀ flags a₀)

-- the same as `Moves`, of a step that may grant the opens of others: it is said too
pub record MovesAll
    (sizes : Sizes) (x : Step) (t₀ : List ℕ) (flags₀ : List Bool) (a₀ : Stores) (words₀ t : List ℕ) (flags : List Bool)
    (a : Stores) (words : List ℕ) (said : ℕ) : Type 0 where
  pub long : length t ≡ length t₀
  pub flags_long : length flags ≡ length flags₀
  pub service :
      (given : Sizes)
      → sizes ≡ in_force given
      → service_held given t flags a ≡ (moved false false (service_held given t₀ flags₀ a₀) x).service
  pub says :
      (given : Sizes)
      → sizes ≡ in_force given
      → SaysIn words₀ said words
      (moved false false (service_held given t₀ flags₀ a₀) x).reply
      (moved false false (service_held given t₀ flags₀ a₀) x).calls
      (moved false false (service_held given t₀ flags₀ a₀) x).grants
  pub silent :
      (given : Sizes) → sizes ≡ in_force given → (moved false false (service_held given t₀ flags₀ a₀) x).calls ≡ no_calls
  pub refused :
      (given : Sizes)
      → sizes ≡ in_force given
      → is_refused (moved false false (service_held given t₀ flags₀ a₀) x).reply ≡ true
      → (t ≡ t₀) × (flags ≡ flags₀)

-- and with the store
pub record ServesAll
    (sizes : Sizes) (x : Step) (t₀ : List ℕ) (flags₀ : List Bool) (a₀ : Stores) (words₀ t : List ℕ) (flags : List Bool)
    (a : Stores) (words : List ℕ) (said : ℕ) : Type 0 where
  pub long : length t ≡ length t₀
  pub flags_long : length flags ≡ length flags₀
  pub service :
      (given : Sizes)
      → sizes ≡ in_force given
      → service_held given t flags a ≡ (step_of (service_held given t₀ flags₀ a₀) x).service
  pub says :
      (given : Sizes)
      → sizes ≡ in_force given
      → SaysIn words₀ said words
      (step_of (service_held given t₀ flags₀ a₀) x).reply
      (step_of (service_held given t₀ flags₀ a₀) x).calls
      (step_of (service_held given t₀ flags₀ a₀) x).grants
  pub silent :
      (given : Sizes) → sizes ≡ in_force given → (step_of (service_held given t₀ flags₀ a₀) x).calls ≡ no_calls
  pub refused :
      (given : Sizes)
      → sizes ≡ in_force given
      → is_refused (step_of (service_held given t₀ flags₀ a₀) x).reply ≡ true
      → (t ≡ t₀) × (flags ≡ flags₀)

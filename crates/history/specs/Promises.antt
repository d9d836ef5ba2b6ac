-- What is promised of every history, from the fresh service of any sizes on: Demand 3, nothing left behind, what an
-- embargo is worth, that no report clashes, that space does not run out later, and what is told of each read. A new
-- promise is a field here.
use Rattle.std.specs.Prelude.{ℕ, ◌<◌, List, [], ◌∷◌}
use Rattle.sizes.specs.declared.sizes.Sizes.{Sizes}
use Rattle.protocol.specs.declared.step.Step.{Step}
use Rattle.service.specs.declared.service.Service.{Service}
use Rattle.service.specs.Aside.{Forgotten, Unseen, Told}
use Rattle.service.specs.Demand3.{ReadIsLatest, EndRestores}
use Rattle.service.specs.Fresh.{fresh}
use Rattle.service.specs.NothingBehind.{NothingBehind}
use Rattle.service.specs.Reports.{Passes}
use Rattle.service.specs.Store.{Accounted, Crowded}
use Rattle.ledger.specs.Provenance.{LineIsTold}
use Rattle.history.specs.Event.{Event, step, next, steps_of, Premise}
use Rattle.history.specs.Past.{Past, no_past, past_all}

-- a member of a history, with the number of its line
pub record Member : Type 0 where
  pub line : ℕ
  pub event : Event

-- of a step that is to come
pub record StepKept (s : Service) (p : Past) (x : Step) : Type 0 where
  -- "Every accepted read gives the number that the book has for its file and block just before that read", of a client
  -- without embargo
  pub read : ReadIsLatest s p.memory x
  -- "After that end the table equals the one just before the crash that began the recovery, and no open waits."
  pub end : EndRestores s p.recovery x
  -- what a client under embargo reads and writes changes nothing but its own copies, and the memory has none of it
  pub unseen : Unseen s x
  -- a client that is told of its embargo, or restarts, is under embargo no more
  pub lifted : Told s x
  -- "Reports of stations that follow the rules always pass": it is not refused with 22
  pub passes : Passes s x
  -- "23 when such a write finds nothing free, and only then"
  pub crowded : Crowded s x
  -- what `explain` says of a read is so
  pub told : LineIsTold s p.ledger p.steps x

-- of a service, whatever comes
pub record Kept (s : Service) (p : Past) : Type 0 where
  pub steps : (x : Step) → StepKept s p x
  -- "a station is last writer only while it has a dirty block of that file and no writers"
  pub nothing_behind : NothingBehind s
  -- "The server forgets it": it has nothing of a client under embargo
  pub forgotten : Forgotten s
  -- "From a fresh service free, used and reserved make the size after every step outside recovery"
  pub accounted : Accounted s

-- before each member of a history, and at its end
abbrev pub AllKept : Service → Past → List Member → Type 0
AllKept s p [] = Kept s p
AllKept s p (e ∷ es) =
    Kept s p × AllKept (next s e.event) (past_all e.line s (steps_of s e.event) p) es

-- each member's premise, where it comes; lines have numbers above 0
abbrev pub Premises : Service → List Member → Type 0
Premises s [] = Unit {0}
Premises s (e ∷ es) = (0 < e.line) × Premise s e.event × Premises (next s e.event) es

abbrev pub Histories : Type 0
Histories = (z : Sizes) (history : List Member) → Premises (fresh z) history → AllKept (fresh z) no_past history

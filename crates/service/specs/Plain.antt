-- Demand 3 as document 01 has it, for lists in which no client restarts, is put under embargo or is told: the reference
-- memory is the plain book, a number for each file and block.
use Rattle.std.specs.Prelude.{ℕ, ◌≡◌, Bool, true, false, cond, ◌&&◌, List, [], ◌∷◌, eqb}
use Rattle.protocol.specs.declared.reply.Reply.TheVariants.{Value}
use Rattle.protocol.specs.declared.step.Step.{Step}
use Rattle.protocol.specs.declared.step.Step.TheVariants.{Open, Close, Read, Write, Flush, Answer, Crash, Report, End}
use Rattle.protocol.specs.declared.step.Step.TheVariants.{Restart, Embargo, Lift}
use Rattle.sizes.specs.declared.sizes.Sizes.{Sizes}
use Rattle.service.specs.declared.service.Service.{Service}
use Rattle.service.specs.Step.{step_of}
use Rattle.service.specs.Fresh.{fresh}
use Rattle.service.specs.Demand3.{refused, after, Recovery, none, recovery_after, EndRestores}

-- "It holds one number for each file and block, 0 at first."
abbrev pub Book : Type 0
Book = ℕ → ℕ → ℕ

abbrev pub zeros : Book
zeros f b = 0

-- "An accepted write sets the number of its file and block to its value, whichever station writes. Every other step,
-- and every refused one, leaves the book as it is."
abbrev pub noted : Book → Step → Bool → Book
noted k (Open mode i f) refusal = k
noted k (Close mode i f) refusal = k
noted k (Read i f b) refusal = k
noted k (Write i f b v) refusal = cond refusal k (λ f' b'. cond (eqb f' f && eqb b' b) v (k f' b'))
noted k (Flush i f b) refusal = k
noted k (Answer i f) refusal = k
noted k Crash refusal = k
noted k (Report i) refusal = k
noted k End refusal = k
noted k (Restart i) refusal = k
noted k (Embargo i f) refusal = k
noted k (Lift i) refusal = k

-- "Every accepted read gives the number that the book has for its file and block just before that read."
abbrev pub ReadIsBooked : Service → Book → Step → Type 0
ReadIsBooked s k x = (i f b : ℕ) → x ≡ Read i f b → refused s x ≡ false → (step_of s x).reply ≡ Value (k f b)

-- a restart, an embargo or the end of one
abbrev pub is_on_all : Step → Bool
is_on_all (Open mode i f) = false
is_on_all (Close mode i f) = false
is_on_all (Read i f b) = false
is_on_all (Write i f b v) = false
is_on_all (Flush i f b) = false
is_on_all (Answer i f) = false
is_on_all Crash = false
is_on_all (Report i) = false
is_on_all End = false
is_on_all (Restart i) = true
is_on_all (Embargo i f) = true
is_on_all (Lift i) = true

abbrev pub Plain : List Step → Type 0
Plain [] = Unit {0}
Plain (x ∷ xs) = (is_on_all x ≡ false) × Plain xs

-- both hold at each step of the list
abbrev pub PlainlyHolds : Service → Book → Recovery → List Step → Type 0
PlainlyHolds s k r [] = Unit {0}
PlainlyHolds s k r (x ∷ xs) =
    ReadIsBooked s k x
    × EndRestores s r x
    × PlainlyHolds (after s x) (noted k x (refused s x)) (recovery_after s r x (refused s x)) xs

-- for every such list of steps, from the service s on
pub record PlainlyConsistent (s : Service) : Type 0 where
  pub always : (steps : List Step) → Plain steps → PlainlyHolds s zeros none steps

-- for any sizes
abbrev pub PlainDemand3 : Type 0
PlainDemand3 = (z : Sizes) → PlainlyConsistent (fresh z)

-- "The morning crew splits the sheet by file" (document 02, Wish 12): what is promised of a list of steps on single files
-- that is reordered, and of its parts.
use Rattle.std.specs.Prelude.{ℕ, ◌≡◌, true, cond, List, [], ◌∷◌, eqb}
use Rattle.protocol.specs.declared.step.Step.{Step}
use Rattle.protocol.specs.Step.{file_of}
use Rattle.service.specs.declared.service.Service.{Service}
use Rattle.apart.specs.Apart.{on_one_file, Got, gets, then, LeavesFree}

-- every step of the list is on one file
abbrev pub AllOnOne : List Step → Type 0
AllOnOne [] = Unit {0}
AllOnOne (x ∷ xs) = (on_one_file x ≡ true) × AllOnOne xs

-- none of them, as the list is played, takes or frees a place
abbrev pub AllLeaveFree : Service → List Step → Type 0
AllLeaveFree s [] = Unit {0}
AllLeaveFree s (x ∷ xs) = LeavesFree s x × AllLeaveFree (then s x) xs

-- the steps on file f, in their order
unfoldable pub steps_on : ℕ → List Step → List Step
steps_on f [] = []
steps_on f (x ∷ xs) = cond (eqb (file_of x) f) (x ∷ steps_on f xs) (steps_on f xs)

-- a step, and what it got
pub record Told : Type 0 where
  pub step : Step
  pub got : Got

-- what each step of a list gets, and the service after all
unfoldable pub told : Service → List Step → List Told
told s [] = []
told s (x ∷ xs) = record { step = x; got = gets s x } ∷ told (then s x) xs

unfoldable pub then_all : Service → List Step → Service
then_all s [] = s
then_all s (x ∷ xs) = then_all (then s x) xs

-- of these, those on file f
unfoldable pub told_on : ℕ → List Told → List Told
told_on f [] = []
told_on f (t ∷ ts) = cond (eqb (file_of t.step) f) (t ∷ told_on f ts) (told_on f ts)

-- the same steps in another order, that within each file kept
abbrev pub SameByFile : List Step → List Step → Type 0
SameByFile xs ys = (f : ℕ) → steps_on f xs ≡ steps_on f ys

-- A list may be reordered in any way that keeps the order within each file: every step keeps what it gets, and the final
-- service is the same.
pub record Reorders (s : Service) (xs ys : List Step) : Type 0 where
  pub replies : (f : ℕ) → told_on f (told s xs) ≡ told_on f (told s ys)
  pub service : then_all s xs ≡ then_all s ys

abbrev pub ListsReorder : Type 0
ListsReorder =
    (s : Service) (xs ys : List Step)
    → AllOnOne xs
    → AllOnOne ys
    → AllLeaveFree s xs
    → SameByFile xs ys
    → Reorders s xs ys

-- Played apart, file by file, each part on a copy of the service, every step gets what it gets in the whole list.
abbrev pub PlayedApart : Type 0
PlayedApart =
    (s : Service) (xs : List Step)
    → AllOnOne xs
    → AllLeaveFree s xs
    → (f : ℕ)
    → told s (steps_on f xs) ≡ told_on f (told s xs)

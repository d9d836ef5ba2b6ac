-- The lines of an input, and what is said of them, for any kind of state.
use Rattle.std.specs.Prelude.{ℕ, ◌+◌, ◌≡◌, Bool, true, false, List, [], ◌∷◌, ◌++◌, eqb}

-- A byte before lines: "one step a line, ended by LF or the end of input (nothing after the last LF is no line)". LF
-- begins another line, any other byte is the first of the first line.
abbrev pub before : Bool → ℕ → List (List ℕ) → List (List ℕ)
before true b ls = [] ∷ ls
before false b [] = (b ∷ []) ∷ []
before false b (l ∷ ls) = (b ∷ l) ∷ ls

unfoldable pub lines : List ℕ → List (List ℕ)
lines [] = []
lines (b ∷ l) = before (eqb b 10) b (lines l)

-- Whatever follows a starts a new line.
abbrev pub BreaksLine : List ℕ → Type 0
BreaksLine a = (b : List ℕ) → lines (a ++ b) ≡ lines a ++ lines b

-- what is said of the lines from state s on, the first of them numbered n; a line's number may count for what it does
unfoldable pub transcript {ℓ} :
    {S : Type ℓ}
    → (S → ℕ → List ℕ → List ℕ)
    → (S → ℕ → List ℕ → S)
    → S → ℕ → List (List ℕ) → List ℕ
transcript say next s n [] = []
transcript say next s n (l ∷ ls) = say s n l ++ transcript say next (next s n l) (n + 1) ls

-- the state after the lines
unfoldable pub after {ℓ} : {S : Type ℓ} → (S → ℕ → List ℕ → S) → S → ℕ → List (List ℕ) → S
after next s n [] = s
after next s n (l ∷ ls) = after next (next s n l) (n + 1) ls

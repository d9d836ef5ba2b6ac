-- The reference memory of one block (document 01: the plain book) from Wish 8 on: the accepted writes to the block that
-- are not lost, the newest first.
use Rattle.std.specs.Prelude.{ℕ, Bool, false, cond, not, ◌&&◌, ◌||◌, List, [], ◌∷◌, eqb}

-- A write: who wrote, what, and whether it is safe. One that waits in its client's copy is at risk; one that has come
-- to the server is safe. What was written is a number here, and a number with its line where lines are told (crate
-- ledger).
pub record Written (A : Type 0) : Type 0 where
  pub client : ℕ
  pub value : A
  pub safe : Bool

abbrev pub HistoryOf : Type 0 → Type 0
HistoryOf A = List (Written A)

abbrev pub History : Type 0
History = HistoryOf ℕ

-- "a reader then gets the latest write not lost", 0 where there is none
abbrev pub latest : History → ℕ
latest [] = 0
latest (w ∷ ws) = w.value

-- client i writes x: a delayed write is at risk, one that is sent at once is safe
abbrev pub wrote : {A : Type 0} → ℕ → A → Bool → HistoryOf A → HistoryOf A
wrote i x delayed ws = record { client = i; value = x; safe = not delayed } ∷ ws

-- what client i had not sent has come to the server: a flush of the block, or an answer
abbrev pub came : {A : Type 0} → ℕ → HistoryOf A → HistoryOf A
came i [] = []
came i (w ∷ ws) = record { client = w.client; value = w.value; safe = w.safe || eqb w.client i } ∷ came i ws

-- "Its writes to a block since it was last clean there are lost": client i restarts
abbrev pub lost : {A : Type 0} → ℕ → HistoryOf A → HistoryOf A
lost i [] = []
lost i (w ∷ ws) = cond (w.safe || not (eqb w.client i)) (w ∷ lost i ws) (lost i ws)

-- whether the latest write is at risk, and client i's
abbrev pub risked_by : {A : Type 0} → ℕ → HistoryOf A → Bool
risked_by i [] = false
risked_by i (w ∷ ws) = not w.safe && eqb w.client i

-- a write that is named, with its client, or none; the latest write
pub data Named (A : Type 0) : Type 0 where
  none : Named A
  by : ℕ → A → Named A

abbrev pub first_of : {A : Type 0} → HistoryOf A → Named A
first_of [] = none
first_of (w ∷ ws) = by w.client w.value

-- What is printed of the totals.
use Rattle.std.specs.Prelude.{ℕ, zero, suc, ◌+◌, List, [], ◌∷◌, ◌++◌}
use Rattle.stepfile.specs.Text.{bytes, decimal, argument_text}
use Rattle.trace.specs.Counted.{columns}
use Rattle.trace.specs.Number.{at_most}

-- the first so many columns, each number after a space
unfoldable pub columns_text : ℕ → (ℕ → ℕ) → List ℕ
columns_text zero number = []
columns_text (suc c) number = columns_text c number ++ argument_text (number c)

-- "these eight numbers in this order", after a name
abbrev pub row_text : List ℕ → (ℕ → ℕ) → List ℕ
row_text name number = name ++ (columns_text columns number ++ (10 ∷ []))

-- "A line gives the station, ascending": those below a station
unfoldable pub stations_text : ℕ → (ℕ → ℕ → ℕ) → List ℕ
stations_text zero number = []
stations_text (suc i) number = stations_text i number ++ row_text (decimal i) (number i)

unfoldable pub sum_of : ℕ → (ℕ → ℕ) → ℕ
sum_of zero number = 0
sum_of (suc i) number = sum_of i number + number i

-- "or last "all"": "the whole equals the sum over stations"
abbrev pub all_text : ℕ → (ℕ → ℕ → ℕ) → List ℕ
all_text stations number = row_text (bytes "all") (λ c. at_most (sum_of stations (λ i. number i c)))

-- the whole output, for so many stations in force, by the number of each station and column
abbrev pub traffic_text : ℕ → (ℕ → ℕ → ℕ) → List ℕ
traffic_text stations number = stations_text stations number ++ all_text stations number

-- the room that it is given: more than it takes
abbrev pub traffic_room : ℕ
traffic_room = 2048

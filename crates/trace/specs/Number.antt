-- How many records of a trace are of a station and count in a column: what is promised of the totals after a trace
-- (`counts`, proofs/Numbers.antt), and of the columns (`reads_agree`).
use Rattle.std.specs.Prelude.{ℕ, ◌+◌, ◌≤◌, ◌<◌, ◌≡◌, Bool, false, cond, ◌&&◌, List, [], ◌∷◌, eqb, ltb, length, get_or}
use Rattle.sizes.specs.Sizes.{max_clients}
use Rattle.trace.specs.declared.record.TraceRecord.{TraceRecord}
use Rattle.trace.specs.Counted.{kind_number, outcome_number, columns, columns_of, last_total, totals_room, first_total}

abbrev pub is_of : ℕ → ℕ → TraceRecord → Bool
is_of station column r =
    eqb r.station station && get_or (columns_of (kind_number r.kind) (outcome_number r.outcome)) column false

unfoldable pub number_in : ℕ → ℕ → List TraceRecord → ℕ
number_in station column [] = 0
number_in station column (r ∷ rs) = cond (is_of station column r) 1 0 + number_in station column rs

abbrev pub total_at : List ℕ → ℕ → ℕ → ℕ
total_at totals station column = get_or totals (first_total station + column) 0

-- a number, or the last total where it is more
abbrev pub at_most : ℕ → ℕ
at_most n = cond (ltb n last_total) n last_total

-- "Every printed total, while below 2 to the 64th, equals the number of such records in all traces lent": the totals
-- after a trace are those before and the number of such records in it, and those of a station outside the settings stay.
pub record Counts (stations : ℕ) (trace : List TraceRecord) (totals₀ totals : List ℕ) : Type 0 where
  pub long : length totals ≡ length totals₀
  pub each :
      (station column : ℕ)
      → station < stations → station < max_clients → column < columns
      → length totals₀ ≡ totals_room → total_at totals₀ station column ≤ last_total
      → total_at totals station column ≡ at_most (total_at totals₀ station column + number_in station column trace)
  pub outside :
      (station column : ℕ)
      → stations ≤ station → column < columns → total_at totals station column ≡ total_at totals₀ station column

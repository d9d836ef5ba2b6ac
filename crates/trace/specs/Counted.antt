-- In which columns a record counts, and the totals after a trace. Eight totals for each station stand together.
use Rattle.std.specs.Prelude.{ℕ, ◌+◌, ◌*◌, Bool, cond, ◌&&◌, ◌||◌, List, [], ◌∷◌, eqb, ltb, get_or, set}
use Rattle.sizes.specs.Sizes.{max_clients}
use Rattle.trace.specs.declared.record.TraceKind.{TraceKind}
use Rattle.trace.specs.declared.record.TraceKind.TheVariants.{Open, Close, Read, Sent, Call, Other}
use Rattle.trace.specs.declared.record.TraceOutcome.{TraceOutcome}
use Rattle.trace.specs.declared.record.TraceOutcome.TheVariants.{Done, Hit, Fetched, Refused, Pending}
use Rattle.trace.specs.declared.record.TraceRecord.{TraceRecord}

-- the plain number of each kind and of each outcome
abbrev pub kind_number : TraceKind → ℕ
kind_number Open = 0
kind_number Close = 1
kind_number Read = 2
kind_number Sent = 3
kind_number Call = 4
kind_number Other = 5

abbrev pub outcome_number : TraceOutcome → ℕ
outcome_number Done = 0
outcome_number Hit = 1
outcome_number Fetched = 2
outcome_number Refused = 3
outcome_number Pending = 4

-- how many columns there are
abbrev pub columns : ℕ
columns = 8

-- "the opens, closes, fetches, writes sent, calls, refusals, and reads from the copy as two whole numbers, hits and
-- accepted reads": whether a record of this kind and outcome counts in each, in this order. "Opens and closes count when
-- granted or done, .. an accepted read not a hit as a fetch, each N as a refusal."
abbrev pub columns_of : ℕ → ℕ → List Bool
columns_of kind outcome =
    (eqb kind 0 && eqb outcome 0)
    ∷ (eqb kind 1 && eqb outcome 0)
    ∷ (eqb kind 2 && eqb outcome 2)
    ∷ eqb kind 3
    ∷ eqb kind 4
    ∷ eqb outcome 3
    ∷ (eqb kind 2 && eqb outcome 1)
    ∷ ((eqb kind 2 && eqb outcome 2) || (eqb kind 2 && eqb outcome 1))
    ∷ []

-- "while below 2 to the 64th": a total that would pass this one stays
abbrev pub last_total : ℕ
last_total = 18446744073709551615

abbrev pub raised_if : Bool → ℕ → ℕ
raised_if counts total = cond (counts && ltb total last_total) (total + 1) total

-- the totals, from one on, raised where they count
unfoldable pub raised : List Bool → ℕ → List ℕ → List ℕ
raised [] at totals = totals
raised (c ∷ cs) at totals = raised cs (at + 1) (set totals at (raised_if c (get_or totals at 0)))

-- how many totals there are
abbrev pub totals_room : ℕ
totals_room = columns * max_clients

-- where the totals of a station begin
abbrev pub first_total : ℕ → ℕ
first_total station = station * columns

-- "a record of a station outside the settings counts nowhere"
abbrev pub is_counted : ℕ → ℕ → Bool
is_counted stations station = ltb station stations && ltb station max_clients

-- the totals after a record, by its numbers
unfoldable pub counted_numbers : ℕ → ℕ → ℕ → ℕ → List ℕ → List ℕ
counted_numbers stations station kind outcome totals =
    cond (is_counted stations station) (raised (columns_of kind outcome) (first_total station) totals) totals

unfoldable pub counted : ℕ → TraceRecord → List ℕ → List ℕ
counted stations r totals =
    counted_numbers stations r.station (kind_number r.kind) (outcome_number r.outcome) totals

-- the totals after a trace
unfoldable pub counted_all : ℕ → List TraceRecord → List ℕ → List ℕ
counted_all stations [] totals = totals
counted_all stations (r ∷ rs) totals = counted_all stations rs (counted stations r totals)

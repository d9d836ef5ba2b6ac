-- The totals after a trace: each is the number of the records of its station and column, added to what it was, and stays
-- at the last total (`counts`, specs/Number.antt). Traces one after the other are counted as one, and the accepted reads
-- are the hits and the fetches. Assumes nothing.
use Prim.Native.Nat.{ℕ, zero, suc, ◌+◌, ◌≤◌, ◌<◌}
use native.Mathlib.Nat.{not-suc-le-zero}
use native.Mathlib.Numerals.{add-one}
use native.Mathlib.Omega.{arith}
use mathlib.Core.Path.{◌≡◌, refl, sym, ap, ◌∙◌}
use mathlib.Core.Bool.{Bool, true, false, cond, ◌&&◌, ◌||◌}
use mathlib.Core.List.{List, [], ◌∷◌, ◌++◌}
use lib.Dec.{eqb, ltb}
use lib.ListN.{length, get_or, set, take, length-set}
use lib.Seq.{get_or-set_same, get_or-set_other, take-suc, take_all}
use borrow.Author.Tests.{eqb-true, eqb-false, ltb-true, ltb-false, lt-ltb, le-ltb}
use Rattle.sizes.specs.Sizes.{max_clients}
use Rattle.sizes.proofs.Choosing.{when, unless, split, and_left}
use Rattle.trace.specs.declared.record.TraceOutcome.{TraceOutcome}
use Rattle.trace.specs.declared.record.TraceOutcome.TheVariants.{Done, Hit, Fetched, Refused, Pending}
use Rattle.trace.specs.declared.record.TraceRecord.{TraceRecord}
use Rattle.trace.specs.Counted.{kind_number, outcome_number, columns, columns_of, last_total, raised_if, raised}
use Rattle.trace.specs.Counted.{totals_room, first_total, is_counted, counted_numbers, counted, counted_all}
use Rattle.trace.specs.Number.{is_of, number_in, total_at, at_most, Counts}

-- ---- a number, or the last total where it is more
most_small : (n : ℕ) → n ≤ last_total → at_most n ≡ n
most_small n h =
    split (ltb n last_total)
    (λ e. when n last_total e)
    (λ e. let q : last_total ≤ n = ltb-false n last_total e in unless n last_total e ∙ omega arith)

most_large : (n : ℕ) → last_total ≤ n → at_most n ≡ last_total
most_large n h = unless n last_total (le-ltb n last_total h)

most_at_most : (n : ℕ) → at_most n ≤ last_total
most_at_most n =
    split (ltb n last_total)
    (λ e. let q : n < last_total = ltb-true n last_total e in omega (arith, when n last_total e))
    (λ e. omega (arith, unless n last_total e))

-- what is more stays more
most_sum : (a b : ℕ) → at_most (at_most a + b) ≡ at_most (a + b)
most_sum a b =
    split (ltb a last_total)
    (λ e. ap (λ k. at_most (k + b)) (when a last_total e))
    (λ e.
    let q : last_total ≤ a = ltb-false a last_total e in
    ap (λ k. at_most (k + b)) (unless a last_total e)
    ∙ most_large (last_total + b) (omega arith)
    ∙ sym (most_large (a + b) (omega arith)))

-- a total that is raised
raised_most : (c : Bool) (n : ℕ) → n ≤ last_total → raised_if c n ≡ at_most (n + cond c 1 0)
raised_most false n h = sym (most_small (n + 0) (omega arith) ∙ omega arith)
raised_most true n h =
    split (ltb n last_total)
    (λ e.
    let q : n < last_total = ltb-true n last_total e in
    when (n + 1) n e ∙ sym (most_small (n + 1) (omega arith)))
    (λ e.
    let q : last_total ≤ n = ltb-false n last_total e in
    let is : n ≡ last_total = omega arith in
    unless (n + 1) n e ∙ is ∙ sym (most_large (n + 1) (omega arith)))

-- ---- the totals from one on, raised
raised_long : (cs : List Bool) (at : ℕ) (l : List ℕ) → length (raised cs at l) ≡ length l
unfolding raised
raised_long [] at l = refl
raised_long (c ∷ cs) at l = raised_long cs (at + 1) _ ∙ simp length-set

-- the others stay
raised_before : (cs : List Bool) (at : ℕ) (l : List ℕ) (k : ℕ) → k < at → get_or (raised cs at l) k 0 ≡ get_or l k 0
unfolding raised
raised_before [] at l k h = refl
raised_before (c ∷ cs) at l k h =
    raised_before cs (at + 1) _ k (omega arith) ∙ get_or-set_other l at k _ 0 (λ e. omega (arith, e))

raised_after :
    (cs : List Bool) (at : ℕ) (l : List ℕ) (k : ℕ) → at + length cs ≤ k → get_or (raised cs at l) k 0 ≡ get_or l k 0
unfolding raised
raised_after [] at l k h = refl
raised_after (c ∷ cs) at l k h =
    raised_after cs (at + 1) _ k (omega arith) ∙ get_or-set_other l at k _ 0 (λ e. omega (arith, e))

-- each is raised, if it counts
raised_at :
    (cs : List Bool) (at : ℕ) (l : List ℕ) (k : ℕ)
    → k < length cs
    → at + length cs ≤ length l
    → get_or (raised cs at l) (at + k) 0 ≡ raised_if (get_or cs k false) (get_or l (at + k) 0)
unfolding raised
raised_at [] at l k below room = absurd (not-suc-le-zero below)
raised_at (c ∷ cs) at l zero below room =
    let is : at + 0 ≡ at = omega arith in
    rw is (raised_before cs (at + 1) _ at (omega arith) ∙ get_or-set_same l at _ 0 (omega arith))
raised_at (c ∷ cs) at l (suc k) below room =
    let is : at + suc k ≡ at + 1 + k = omega arith in
    let long : length (set l at (raised_if c (get_or l at 0))) ≡ length l = length-set l at _ in
    rw is
    (raised_at cs (at + 1) (set l at (raised_if c (get_or l at 0))) k (omega arith) (omega arith)
    ∙ ap (λ n. raised_if (get_or cs k false) n) (get_or-set_other l at (at + 1 + k) _ 0 (λ e. omega (arith, e))))

-- ---- the totals after a record
-- the columns in which it counts
abbrev marks : TraceRecord → List Bool
marks r = columns_of (kind_number r.kind) (outcome_number r.outcome)

module _ (stations : ℕ) (r : TraceRecord) (l : List ℕ) where
  -- its columns are raised if its station is counted, and nothing changes otherwise
  counted_inside :
      is_counted stations r.station ≡ true
      → counted stations r l ≡ raised (marks r) (first_total r.station) l
  unfolding counted counted_numbers
  counted_inside e = when _ _ e

  counted_outside : is_counted stations r.station ≡ false → counted stations r l ≡ l
  unfolding counted counted_numbers
  counted_outside e = unless _ _ e

  counted_long : length (counted stations r l) ≡ length l
  counted_long =
      split (is_counted stations r.station)
      (λ e. ap length (counted_inside e) ∙ raised_long _ _ l)
      (λ e. ap length (counted_outside e))

  -- the totals of another station stay
  counted_other :
      (station column : ℕ)
      → column < columns
      → (r.station ≡ station → ⊥)
      → total_at (counted stations r l) station column ≡ total_at l station column
  counted_other station column small other =
      split (is_counted stations r.station)
      (λ e.
      ap (λ m. total_at m station column) (counted_inside e)
      ∙ split (ltb r.station station)
      (λ f.
      let q : r.station < station = ltb-true r.station station f in
      raised_after _ (first_total r.station) l (first_total station + column) (omega arith))
      (λ f.
      let q : station ≤ r.station = ltb-false r.station station f in
      raised_before _ (first_total r.station) l (first_total station + column) (omega (arith, other))))
      (λ e. ap (λ m. total_at m station column) (counted_outside e))

  -- those of its own are raised where it counts
  counted_own :
      (column : ℕ)
      → r.station < stations
      → r.station < max_clients
      → column < columns
      → length l ≡ totals_room
      → total_at (counted stations r l) r.station column
      ≡ raised_if (get_or (marks r) column false) (total_at l r.station column)
  counted_own column counts below small long =
      ap (λ m. total_at m r.station column)
      (counted_inside (rw (lt-ltb r.station stations counts, lt-ltb r.station max_clients below)))
      ∙ raised_at (marks r) (first_total r.station) l column small (omega arith)

  -- so each total of a station that is counted is one more if the record is of it and counts there
  counted_each :
      (station column : ℕ)
      → station < stations
      → station < max_clients
      → column < columns
      → length l ≡ totals_room
      → total_at l station column ≤ last_total
      → total_at (counted stations r l) station column
      ≡ at_most (total_at l station column + cond (is_of station column r) 1 0)
  counted_each station column counts below small long fits =
      split (eqb r.station station)
      (λ e.
      let is : r.station ≡ station = eqb-true r.station station e in
      rw e
      (rw (← is)
      (counted_own column (omega arith) (omega arith) small long
      ∙ raised_most (get_or (marks r) column false) (total_at l r.station column) (rw is fits))))
      (λ e.
      rw e
      (counted_other station column small (eqb-false r.station station e)
      ∙ raised_most false (total_at l station column) fits))

  -- and those of a station outside the settings stay
  counted_stays :
      (station column : ℕ)
      → stations ≤ station
      → column < columns
      → total_at (counted stations r l) station column ≡ total_at l station column
  counted_stays station column past small =
      split (is_counted stations r.station)
      (λ e.
      let q : r.station < stations = ltb-true r.station stations (and_left _ _ e) in
      counted_other station column small (λ is. omega (arith, is)))
      (λ e. ap (λ m. total_at m station column) (counted_outside e))

-- ---- the totals after a trace
all_long :
    (stations : ℕ) (trace : List TraceRecord) (totals : List ℕ)
    → length (counted_all stations trace totals) ≡ length totals
unfolding counted_all
all_long stations [] totals = refl
all_long stations (r ∷ rs) totals = all_long stations rs (counted stations r totals) ∙ counted_long stations r totals

all_each :
    (stations : ℕ) (trace : List TraceRecord) (totals : List ℕ) (station column : ℕ)
    → station < stations
    → station < max_clients
    → column < columns
    → length totals ≡ totals_room
    → total_at totals station column ≤ last_total
    → total_at (counted_all stations trace totals) station column
    ≡ at_most (total_at totals station column + number_in station column trace)
unfolding counted_all number_in
all_each stations [] totals station column counts below small long fits =
    let n = total_at totals station column in
    sym (most_small (n + 0) (omega arith) ∙ omega arith)
all_each stations (r ∷ rs) totals station column counts below small long fits =
    let n = total_at totals station column in
    let k = number_in station column rs in
    let one : ℕ = cond (is_of station column r) 1 0 in
    let is : total_at (counted stations r totals) station column ≡ at_most (n + one) =
    counted_each stations r totals station column counts below small long fits in
    let sum : n + one + k ≡ n + (one + k) = omega arith in
    all_each stations rs (counted stations r totals) station column counts below small
    (counted_long stations r totals ∙ long)
    (rw is (most_at_most (n + one)))
    ∙ ap (λ m. at_most (m + k)) is
    ∙ most_sum (n + one) k
    ∙ ap (λ m. at_most m) sum

all_stay :
    (stations : ℕ) (trace : List TraceRecord) (totals : List ℕ) (station column : ℕ)
    → stations ≤ station
    → column < columns
    → total_at (counted_all stations trace totals) station column ≡ total_at totals station column
unfolding counted_all
all_stay stations [] totals station column past small = refl
all_stay stations (r ∷ rs) totals station column past small =
    all_stay stations rs (counted stations r totals) station column past small
    ∙ counted_stays stations r totals station column past small

pub counts :
    (stations : ℕ) (trace : List TraceRecord) (totals : List ℕ)
    → Counts stations trace totals (counted_all stations trace totals)
counts stations trace totals = record {
  long = all_long stations trace totals;
  each = all_each stations trace totals;
  outside = all_stay stations trace totals;
}

-- so of any totals that are those after the trace
pub counts_as :
    (stations : ℕ) (trace : List TraceRecord) (before after : List ℕ)
    → after ≡ counted_all stations trace before
    → Counts stations trace before after
counts_as stations trace before after is = rw is (counts stations trace before)

-- ---- a trace after another
pub counted_append :
    (stations : ℕ) (a b : List TraceRecord) (totals : List ℕ)
    → counted_all stations (a ++ b) totals ≡ counted_all stations b (counted_all stations a totals)
unfolding counted_all
counted_append stations [] b totals = refl
counted_append stations (r ∷ rs) b totals = counted_append stations rs b (counted stations r totals)

-- one more record of a trace
pub counted_more :
    (stations : ℕ) (trace : List TraceRecord) (before here after : List ℕ) (i : ℕ) (r : TraceRecord)
    → i < length trace
    → here ≡ counted_all stations (take i trace) before
    → after ≡ counted stations (get_or trace i r) here
    → after ≡ counted_all stations (take (i + 1) trace) before
unfolding counted_all
counted_more stations trace before here after i r below is_here is_after =
    let one : TraceRecord = get_or trace i r in
    rw (add-one, take-suc trace i r below, counted_append stations (take i trace) (one ∷ []) before)
    (is_after ∙ ap (λ l. counted stations one l) is_here)

-- all of its records
pub counted_whole :
    (stations : ℕ) (trace : List TraceRecord) (before after : List ℕ) (i : ℕ)
    → length trace ≤ i
    → after ≡ counted_all stations (take i trace) before
    → after ≡ counted_all stations trace before
counted_whole stations trace before after i all is =
    is ∙ ap (λ (t : List TraceRecord). counted_all stations t before) (take_all i trace all)

pub number_append :
    (station column : ℕ) (a b : List TraceRecord)
    → number_in station column (a ++ b) ≡ number_in station column a + number_in station column b
unfolding number_in
number_append station column [] b = omega arith
number_append station column (r ∷ rs) b =
    let q : number_in station column (rs ++ b) ≡ number_in station column rs + number_in station column b =
    number_append station column rs b in
    rw q (omega arith)

-- ---- the accepted reads: an outcome is one only
read_agrees :
    (own reads : Bool) (o : TraceOutcome)
    → cond (own && ((reads && eqb (outcome_number o) 2) || (reads && eqb (outcome_number o) 1))) 1 0
    ≡ cond (own && (reads && eqb (outcome_number o) 1)) 1 0 + cond (own && (reads && eqb (outcome_number o) 2)) 1 0
read_agrees false reads o = refl
read_agrees true false o = refl
read_agrees true true Done = refl
read_agrees true true Hit = refl
read_agrees true true Fetched = refl
read_agrees true true Refused = refl
read_agrees true true Pending = refl

pub reads_agree :
    (station : ℕ) (trace : List TraceRecord)
    → number_in station 7 trace ≡ number_in station 6 trace + number_in station 2 trace
unfolding number_in
reads_agree station [] = refl
reads_agree station (r ∷ rs) =
    let one : cond (is_of station 7 r) 1 0 ≡ cond (is_of station 6 r) 1 0 + cond (is_of station 2 r) 1 0 =
    read_agrees (eqb r.station station) (eqb (kind_number r.kind) 2) r.outcome in
    let rest : number_in station 7 rs ≡ number_in station 6 rs + number_in station 2 rs = reads_agree station rs in
    rw (one, rest) (omega arith)

-- The totals after all lines are those of all their traces, one after the other. Assumes nothing.
use Prim.Native.Nat.{ℕ, ◌+◌, ◌<◌}
use mathlib.Core.Path.{◌≡◌, refl, sym, ap, ◌∙◌}
use mathlib.Core.Bool.{Bool, true, false, ◌&&◌}
use mathlib.Core.List.{List, [], ◌∷◌, ◌++◌}
use native.Mathlib.Nat.{zero-add}
use native.Mathlib.Omega.{arith}
use lib.Dec.{eqb}
use lib.ListN.{replicate, length-replicate, get_or-replicate}
use borrow.Author.Tests.{ne_eqb}
use Rattle.sizes.specs.declared.sizes.Sizes.{Sizes}
use Rattle.sizes.specs.Sizes.{in_force}
use Rattle.sizes.proofs.InForce.{in_force_permitted}
use Rattle.service.specs.declared.service.Service.{Service}
use Rattle.stepfile.specs.Grammar.{parse_line}
use Rattle.stepfile.specs.Played.{outcome_of, service_after, after_lines}
use Rattle.stepfile.specs.Transcript.{after}
use Rattle.trace.specs.Counted.{columns, first_total, totals_room, counted_all}
use Rattle.trace.specs.Number.{total_at, at_most, number_in}
use Rattle.trace.proofs.Numbers.{counts, counted_append}
use Rattle.counting.specs.LineTrace.{stations_of, trace_in, trace_at}
use Rattle.counting.specs.Lines.{Counted, uncounted, counted_line}
use Rattle.counting.specs.Traffic.{traces_of}
use Rattle.counting.proofs.SizesStay.{step_stays, line_stays}
use Rattle.protocol.specs.declared.step.Step.{Step}
use Rattle.std.proofs.Common.{Option, Some, None}

module _ (settable : Bool) where
  -- the service goes its way beside the totals
  pub service_after_lem : (ls : List (List ℕ)) (c : Counted) (n : ℕ)
      → (after (counted_line settable) c n ls).service ≡ after_lines settable c.service n ls
  unfolding after
  service_after_lem [] c n = refl
  service_after_lem (l ∷ ls) c n = service_after_lem ls (counted_line settable c n l) (n + 1)

  -- past the first line none may choose the sizes
  none_later : (n : ℕ) → 0 < n → (settable && eqb (n + 1) 1) ≡ false
  none_later n h = ap (λ (x : Bool). settable && x) (ne_eqb (n + 1) 1 (λ e. absurd (omega (arith, e, h)))) ∙ never settable
    where
      never : (x : Bool) → (x && false) ≡ false
      never true = refl
      never false = refl

  stations_stay : (ls : List (List ℕ)) (s : Service) (n : ℕ) → 0 < n
      → stations_of (after_lines settable s (n + 1) ls) ≡ stations_of s
  unfolding after
  stations_stay [] s n h = refl
  stations_stay (l ∷ ls) s n h =
      stations_stay ls (service_after settable s (n + 1) l) (n + 1) (omega arith)
      ∙ ap (λ (z : Sizes). (in_force z).clients) (line_stays settable s (n + 1) l (none_later n h))

  -- ---- the lines past the first
  totals_after : (ls : List (List ℕ)) (c : Counted) (n : ℕ) → 0 < n
      → (after (counted_line settable) c (n + 1) ls).totals
      ≡ counted_all (stations_of c.service) (traces_of settable c.service (n + 1) ls) c.totals
  unfolding after traces_of counted_all
  totals_after [] c n h = refl
  totals_after (l ∷ ls) c n h =
      let s = c.service in
      let next = service_after settable s (n + 1) l in
      let counted = counted_all (stations_of s) (trace_at s l) c.totals in
      totals_after ls (counted_line settable c (n + 1) l) (n + 1) (omega arith)
      ∙ ap (λ (k : ℕ). counted_all k (traces_of settable next (n + 1 + 1) ls) counted)
      (ap (λ (z : Sizes). (in_force z).clients) (line_stays settable s (n + 1) l (none_later n h)))
      ∙ sym (counted_append (stations_of s) (trace_at s l) (traces_of settable next (n + 1 + 1) ls) c.totals)

  -- ---- the first line: it has no trace, or the stations stay
  first_alike : (s : Service) (l : List ℕ) (totals : List ℕ)
      → counted_all (stations_of s) (trace_at s l) totals ≡ counted_all (stations_of (service_after settable s 1 l)) (trace_at s l) totals
  unfolding service_after counted_all
  first_alike s l totals = by (parse_line l)
    where
      by : (p : Option Step)
          → counted_all (stations_of s) (trace_in s p) totals
          ≡ counted_all (stations_of (outcome_of settable s 1 l p).service) (trace_in s p) totals
      by (Some x) = ap (λ (z : Sizes). counted_all (in_force z).clients (trace_in s (Some x)) totals) (sym (step_stays s x))
      by None = refl

  totals_all : (ls : List (List ℕ)) (s : Service) (totals : List ℕ)
      → (after (counted_line settable) (record { service = s; totals = totals }) 1 ls).totals
      ≡ counted_all (stations_of (after_lines settable s 1 ls)) (traces_of settable s 1 ls) totals
  unfolding after traces_of counted_all
  totals_all [] s totals = refl
  totals_all (l ∷ ls) s totals =
      let next = service_after settable s 1 l in
      let there = traces_of settable next 2 ls in
      totals_after ls (record { service = next; totals = counted_all (stations_of s) (trace_at s l) totals }) 1 (omega arith)
      ∙ ap (counted_all (stations_of next) there) (first_alike s l totals)
      ∙ sym (counted_append (stations_of next) (trace_at s l) there totals)
      ∙ ap (λ (k : ℕ). counted_all k (trace_at s l ++ there) totals) (sym (stations_stay ls next 1 (omega arith)))

  -- from nothing on, each total is the number of such records
  pub total_is : (s : Service) (ls : List (List ℕ)) (station column : ℕ)
      → station < stations_of (after_lines settable s 1 ls)
      → column < columns
      → total_at (after (counted_line settable) (uncounted s) 1 ls).totals station column
      ≡ at_most (number_in station column (traces_of settable s 1 ls))
  total_is s ls station column there known =
      let zeros : List ℕ = replicate totals_room 0 in
      let last = after_lines settable s 1 ls in
      let records = traces_of settable s 1 ls in
      let most = (in_force_permitted last.sizes).clients in
      let nothing : total_at zeros station column ≡ 0 =
      get_or-replicate {A = ℕ} totals_room (first_total station + column) 0 0 (omega (arith, there, known, most)) in
      ap (λ (l : List ℕ). total_at l station column) (totals_all ls s zeros)
      ∙ (counts (stations_of last) records zeros).each station column there (omega (arith, there, most)) known
      (length-replicate {A = ℕ} totals_room 0) (omega (arith, nothing))
      ∙ ap (λ (k : ℕ). at_most (k + number_in station column records)) nothing
      ∙ ap at_most (zero-add (number_in station column records))

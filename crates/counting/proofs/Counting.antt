-- One line more is counted: nothing is written for it, and any output buffer stays. Assumes nothing.
use Prim.Native.Nat.{ℕ, ◌+◌, ◌≤◌}
use mathlib.Core.Path.{◌≡◌, refl, sym, ap, ◌∙◌, subst⁻¹}
use mathlib.Core.Bool.{Bool, true, false, cond, ◌&&◌}
use mathlib.Core.List.{List, []}
use native.Mathlib.Omega.{arith}
use lib.Dec.{leb, ltb}
use lib.ListN.{length, take}
use borrow.Author.Tests.{le-leb, ltb-false}
use Rattle.sizes.specs.declared.sizes.Sizes.{Sizes}
use Rattle.sizes.specs.Sizes.{max_blocks, in_force}
use Rattle.blocks.specs.declared.stores.Stores.{Stores}
use Rattle.words.specs.Said.{reply_said, calls_said, grants_said}
use Rattle.service.specs.declared.service.Service.{Service}
use Rattle.service.specs.declared.outcome.Outcome.{Outcome}
use Rattle.service.specs.Lent.{service_held, Stepped}
use Rattle.stepfile.specs.Grammar.{parse_line}
use Rattle.stepfile.specs.Input.{read_at, line_of}
use Rattle.stepfile.specs.Played.{outcome_of, service_after}
use Rattle.writer.specs.Buffer.{written, WroteIfRoom}
use Rattle.writer.proofs.Buffers.{wrote_none}
use Rattle.telling.specs.Lines.{is_number, can_tell}
use Rattle.telling.specs.Reached.{Reached}
use Rattle.telling.proofs.Reaching.{line_bytes, line_bytes_lem}
use Rattle.telling.proofs.LineByLine.{one_more}
use Rattle.trace.specs.Counted.{counted_all}
use Rattle.trace.specs.declared.tracing.Trace.{Trace}
use Rattle.trace.specs.Records.{sent_given, records_given, itself_found, trace_room, records_in}
use Rattle.trace.proofs.Traced.{step_traced}
use Rattle.counting.specs.LineTrace.{stations_of, trace_in}
use Rattle.counting.specs.Lines.{Counted, counted_line, counting}
use Rattle.protocol.specs.declared.step.Step.{Step}
use Rattle.std.proofs.Common.{Option, Some, None}

-- nothing is written, in whatever room
none_written : (out : List ℕ) → WroteIfRoom 0 out 0 [] out 0
none_written out =
    record { bytes = stays (leb (0 + 0) (length out)); next = same (leb (0 + 0) (length out)) }
  where
    stays : (b : Bool) → out ≡ cond b (written out 0 []) out
    stays true = (wrote_none out 0 (omega arith)).bytes
    stays false = refl

    same : (b : Bool) → ◌≡◌ {A = ℕ} 0 (cond b (0 + length {A = ℕ} []) 0)
    same true = refl
    same false = refl

-- whether another line can be counted does not depend on the output buffer
pub can_any : (out : List ℕ) (number : ℕ) → can_tell 0 (length out) 0 number ≡ can_tell 0 0 0 number
can_any out number = ap (λ (b : Bool). b && is_number number) (le-leb 0 (length out) (omega arith))

-- what a line leaves, by what it gives
abbrev pub counted_by : Bool → Counted → ℕ → List ℕ → Option Step → Counted
counted_by settable c n l p =
    record {
      service = (outcome_of settable c.service n l p).service;
      totals = counted_all (stations_of c.service) (trace_in c.service p) c.totals;
    }

counted_so : (settable : Bool) (c : Counted) (n : ℕ) (l : List ℕ) (p : Option Step) → parse_line l ≡ p
    → counted_by settable c n l p ≡ counted_line settable c n l
unfolding service_after
counted_so settable c n l p gives = ap (counted_by settable c n l) (sym gives)

pub line_counted :
    (settable : Bool) (c₀ : Counted) (first : ℕ) (input out₀ out : List ℕ) (c : Counted) (number used : ℕ) (p : Option Step) (next : ℕ) (c' : Counted)
    → Reached (counting settable) c₀ first input out₀ c number used 0 out
    → read_at input used ≡ line_of p next
    → can_tell 0 0 0 number ≡ true
    → c' ≡ counted_by settable c number (line_bytes input used next) p
    → Reached (counting settable) c₀ first input out₀ c' (number + 1) next 0 out
line_counted settable c₀ first input out₀ out c number used p next c' w e can is =
    one_more (counting settable) c₀ first input out₀ c number used 0 out p next c' [] 0 out w e (can_any out number ∙ can)
    (λ l at gives. (
      is ∙ ap (λ (x : List ℕ). counted_by settable c number x p) (line_bytes_lem input used next l at) ∙ counted_so settable c number l p gives,
      refl,
    ))
    (none_written out)
    (omega arith)

-- a line that is no step has no trace: the totals stay
pub none_counted :
    (settable : Bool) (c : Counted) (n : ℕ) (l : List ℕ) (s : Service)
    → s ≡ (outcome_of settable c.service n l None).service
    → ◌≡◌ {A = Counted} (record { service = s; totals = c.totals }) (counted_by settable c n l None)
unfolding counted_all
none_counted settable c n l s e = ap (λ (s : Service). record { service = s; totals = c.totals }) e

-- nothing is written so far: whether another line can be counted
pub still_can : (out : List ℕ) (to number : ℕ) → to ≤ 0 → can_tell 0 0 to number ≡ can_tell 0 (length out) to number
still_can out to number none =
    let at : to ≡ 0 = omega (arith, none) in
    subst⁻¹ (λ (k : ℕ). can_tell 0 0 k number ≡ can_tell 0 (length out) k number) at (sym (can_any out number))

-- what a step that was taken leaves, and what its trace adds
pub step_counted :
    (settable : Bool) (c : Counted) (n : ℕ) (l : List ℕ) (p : Option Step) (o : Outcome) (s : Service) (totals : List ℕ)
    → o ≡ outcome_of settable c.service n l p
    → s ≡ o.service
    → totals ≡ counted_all (stations_of c.service) (trace_in c.service p) c.totals
    → ◌≡◌ {A = Counted} (record { service = s; totals = totals }) (counted_by settable c n l p)
step_counted settable c n l p o s totals is goes adds =
    ap (λ (s : Service). record { service = s; totals = totals }) (goes ∙ ap (λ (o : Outcome). o.service) is)
    ∙ ap (λ (k : List ℕ). record { service = (outcome_of settable c.service n l p).service; totals = k }) adds

-- the records of a line are its trace, by what it gives
pub line_traced :
    (given : Sizes) (p : Option Step) (t₀ : List ℕ) (flags₀ : List Bool) (a₀ : Stores) (words₀ t : List ℕ) (flags : List Bool)
    (a : Stores) (words : List ℕ) (said : ℕ)
    → Stepped given p t₀ flags₀ a₀ words₀ t flags a words said
    → (itself : Bool)
    → itself ≡ itself_found p t₀ a₀.held
    → (stations : ℕ)
    → stations ≡ (in_force given).clients
    → (sent_given p itself (reply_said said words) ≤ max_blocks)
    × (records_given stations p itself (reply_said said words) (calls_said said words) (grants_said said words)
    ≡ trace_in (service_held given t₀ flags₀ a₀) p)
line_traced given (Some x) t₀ flags₀ a₀ words₀ t flags a words said taken itself so stations force =
    step_traced given x t₀ flags₀ a₀ words₀ t flags a words said taken itself so stations force
line_traced given None t₀ flags₀ a₀ words₀ t flags a words said taken itself so stations force = (omega arith, refl)

-- all of its records are lent where there is room for them
pub all_lent : (t : Trace) → t.count ≤ trace_room → records_in t ≡ take t.count t.records
all_lent t fits = ap (λ (n : ℕ). take n t.records) (inside (ltb t.count trace_room) refl)
  where
    inside : (b : Bool) → ltb t.count trace_room ≡ b → cond b t.count trace_room ≡ t.count
    inside true e = refl
    inside false e = let past = ltb-false t.count trace_room e in omega (arith, past, fits)

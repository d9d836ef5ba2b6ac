-- What the first line of an input sets, as it is found; and a line that sets something is no step. Assumes nothing.
use Prim.Native.Nat.{ℕ, ◌+◌, ◌-◌, ◌≤◌}
use mathlib.Core.Path.{◌≡◌, refl, sym, ap, ◌∙◌}
use mathlib.Core.Bool.{Bool, true, false, true≢false, false≢true, ◌&&◌}
use mathlib.Core.List.{List, [], ◌∷◌}
use native.Mathlib.Nat.{zero-add}
use native.Mathlib.Omega.{arith}
use lib.Dec.{eqb}
use lib.ListN.{length, take, length-append}
use lib.Seq.{take_at}
use borrow.Author.Tests.{eqb-true}
use Rattle.sizes.proofs.Choosing.{unless, split, and_left, and_right}
use Rattle.stepfile.specs.declared.parsed.Line.{Line}
use Rattle.stepfile.specs.declared.setting.NoSizes.TheVariants.{Missing}
use Rattle.stepfile.specs.Grammar.{Reading, found, nothing, shape_of, shaped, step, parse_line}
use Rattle.stepfile.specs.Input.{first_line, line_read, read_at, no_step_at, line_of}
use Rattle.stepfile.specs.Setting.{begins_with_set, setting_of}
use Rattle.stepfile.proofs.FirstLines.{first_line_lem}
use Rattle.reader.specs.FirstLine.{is_set, setting_in, first_setting}
use Rattle.protocol.specs.declared.step.Step.{Step}
use Rattle.std.proofs.Common.{Option, Some, None, is_some, Err}

abbrev next_in : Option Line → ℕ
next_in (Some line) = line.next
next_in None = 0

-- a line was found at the start of the input
pub record Found (input : List ℕ) (next : ℕ) : Type 0 where
  pub positive : 1 ≤ next
  pub inside : next ≤ length input
  pub sets : first_setting input ≡ record { setting = setting_of (take (next - 1) input); next = next }

pub first_found : (input : List ℕ) (p : Option Step) (next : ℕ) → no_step_at input 0 ≡ line_of p next → Found input next
first_found input p next e = from (first_line input) refl e
  where
    from : (t : Reading (List ℕ)) → first_line input ≡ t → line_read (λ line. None) 0 t ≡ line_of p next → Found input next
    from (found l r) q f =
        let w = first_line_lem input l r q in
        let offset : 0 + length l + 1 ≡ next = ap next_in f in
        let count : next - 1 ≡ length l = omega (arith, offset) in
        let text : take (next - 1) input ≡ l =
        ap (λ (k : ℕ). take k input) count ∙ ap (take (length l)) w.text ∙ take_at l (10 ∷ r) (length l) refl in
        let long : length l + 1 ≡ next = omega (arith, offset) in
        record {
          positive = omega (arith, offset);
          inside = omega (arith, offset, ap length w.text, length-append l (10 ∷ r));
          sets =
              ap setting_in q
              ∙ ap (λ (k : List ℕ). record { setting = setting_of k; next = length l + 1 }) (sym text)
              ∙ ap (λ (k : ℕ). record { setting = setting_of (take (next - 1) input); next = k }) long;
        }
    from nothing q f = absurd (false≢true (ap is_some f))

-- none was
pub none_found : (input : List ℕ) → no_step_at input 0 ≡ None → first_setting input ≡ record { setting = (Err Missing); next = 0 }
none_found input e = from (first_line input) refl e
  where
    from : (t : Reading (List ℕ)) → first_line input ≡ t → line_read (λ line. None) 0 t ≡ None
        → first_setting input ≡ record { setting = (Err Missing); next = 0 }
    from (found l r) q f = absurd (true≢false (ap is_some f))
    from nothing q f = ap setting_in q

-- a line that begins with SET gives no step
set_no_step : (l : List ℕ) → begins_with_set l ≡ true → parse_line l ≡ None
unfolding parse_line step shaped shape_of
set_no_step [] e = absurd (false≢true e)
set_no_step (a ∷ []) e = absurd (false≢true (sym (no_second (eqb a 83)) ∙ e))
  where
    no_second : (x : Bool) → (x && (false && false)) ≡ false
    no_second true = refl
    no_second false = refl
set_no_step (a ∷ b ∷ l) e =
    let is-s : a ≡ 83 = eqb-true a 83 (and_left (eqb a 83) _ e) in
    let is-e : b ≡ 69 = eqb-true b 69 (and_left (eqb b 69) _ (and_right (eqb a 83) _ e)) in
    ap (λ (k : ℕ). parse_line (k ∷ b ∷ l)) is-s ∙ ap (λ (k : ℕ). parse_line (83 ∷ k ∷ l)) is-e

pub set_is_no_step : (l : List ℕ) → is_set (setting_of l) ≡ true → parse_line l ≡ None
unfolding setting_of
set_is_no_step l e =
    split (begins_with_set l)
    (λ set. set_no_step l set)
    (λ other. absurd (false≢true (sym (ap is_set (unless _ _ other)) ∙ e)))

-- an input whose first line sets something is read so at its start
pub set_read : (input : List ℕ) → is_set (first_setting input).setting ≡ true
    → read_at input 0 ≡ line_of None (first_setting input).next
set_read input e = from (first_line input) refl
  where
    from : (t : Reading (List ℕ)) → first_line input ≡ t → read_at input 0 ≡ line_of None (first_setting input).next
    from (found l r) q =
        let none = set_is_no_step l (ap (λ (t : Reading (List ℕ)). is_set (setting_in t).setting) (sym q) ∙ e) in
        ap (line_read parse_line 0) q
        ∙ ap (λ (p : Option Step). line_of p (0 + length l + 1)) none
        ∙ ap (λ (k : ℕ). line_of None (k + 1)) (zero-add (length l))
        ∙ ap (λ (t : Reading (List ℕ)). line_of None (setting_in t).next) (sym q)
    from nothing q = absurd (false≢true (ap (λ (t : Reading (List ℕ)). is_set (setting_in t).setting) (sym q) ∙ e))

-- what the line at an offset sets, by its bytes
pub set_by : (input l r : List ℕ) → first_line input ≡ found l r → (first_setting input).setting ≡ setting_of l
set_by input l r q = ap (λ (t : Reading (List ℕ)). (setting_in t).setting) q

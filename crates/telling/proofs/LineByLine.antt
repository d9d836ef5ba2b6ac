-- One line more: what a loop over a buffer has told and written, line by line. Assumes nothing.
use Prim.Native.Nat.{ℕ, ◌+◌, ◌-◌, ◌≤◌, ◌<◌}
use mathlib.Core.Path.{◌≡◌, refl, sym, ap, subst, ◌∙◌}
use mathlib.Core.Bool.{true, false, false≢true, true≢false}
use mathlib.Core.List.{List, [], ◌++◌}
use native.Mathlib.Omega.{arith}
use lib.Dec.{leb, ltb}
use lib.ListN.{length, take, drop}
use borrow.Author.Tests.{leb-true, ltb-true}
use Rattle.stepfile.specs.declared.parsed.Line.{Line}
use Rattle.stepfile.specs.Grammar.{Reading, found, nothing, parse_line}
use Rattle.stepfile.specs.Input.{first_line, line_read, read_at, whole_lines, line_of}
use Rattle.stepfile.specs.Transcript.{lines, transcript}
use Rattle.sizes.proofs.Choosing.{and_left, and_right}
use Rattle.stepfile.proofs.FirstLines.{whole_none}
use Rattle.writer.specs.Buffer.{written, WroteIfRoom}
use Rattle.writer.proofs.Buffers.{length_written, wrote_none, wrote_then, wrote_as, if_room_wrote}
use Rattle.telling.specs.Lines.{Telling, Reach, Tells, last_number, is_number, can_tell, said_over, stopped_at, reach_of, reach}
use Rattle.telling.specs.Reached.{At, Reached}
use Rattle.telling.proofs.Reaching.{LineAt, line_at, at_start, at_next, transcript-next, reach_next, reach_full, reach_none}
use Rattle.telling.proofs.Resting.{no_lf}
use Rattle.protocol.specs.declared.step.Step.{Step}
use Rattle.std.proofs.Common.{Option, Some, None, is_some}

-- of a line that was read
abbrev step_in : Option Line → Option Step
step_in (Some line) = line.step
step_in None = None

abbrev next_in : Option Line → ℕ
next_in (Some line) = line.next
next_in None = 0

-- a line that was read at an offset
pub record ReadLine (input : List ℕ) (used : ℕ) (p : Option Step) (next : ℕ) : Type 0 where
  pub line : List ℕ
  pub rest : List ℕ
  pub first : first_line (drop used input) ≡ found line rest
  pub gives : parse_line line ≡ p
  pub at : LineAt input used line next
  pub offset : used + length line + 1 ≡ next

pub read_line : (input : List ℕ) (used : ℕ) (p : Option Step) (next : ℕ) → used ≤ length input
    → read_at input used ≡ line_of p next → ReadLine input used p next
read_line input used p next h e = from (first_line (drop used input)) refl e
  where
    from : (t : Reading (List ℕ)) → first_line (drop used input) ≡ t → line_read parse_line used t ≡ line_of p next → ReadLine input used p next
    from (found l r) q f =
        let gives : parse_line l ≡ p = ap step_in f in
        let offset : used + length l + 1 ≡ next = ap next_in f in
        record { line = l; rest = r; first = q; gives = gives; at = line_at input used h l r next offset q; offset = offset }
    from nothing q f = absurd (false≢true (ap is_some f))

-- fewer bytes are left past it
pub fewer : (input : List ℕ) (used : ℕ) (p : Option Step) (next : ℕ) → ReadLine input used p next → length input - next < length input - used
fewer input used p next read = omega (arith, read.at.later, read.at.inside)

-- no line was read: no whole line is left
no_line : (input : List ℕ) (used : ℕ) → read_at input used ≡ None → whole_lines (drop used input) ≡ []
no_line input used e = from (first_line (drop used input)) refl e
  where
    from : (t : Reading (List ℕ)) → first_line (drop used input) ≡ t → line_read parse_line used t ≡ None → whole_lines (drop used input) ≡ []
    from (found l r) q f = absurd (true≢false (ap is_some f))
    from nothing q f = whole_none (drop used input) (no_lf (drop used input) q)

-- another line can be told: there is room for it, and its number is one
module _ (need room to number : ℕ) (can : can_tell need room to number ≡ true) where
  pub has_room : to + need ≤ room
  has_room = leb-true (to + need) room (and_left (leb (to + need) room) (is_number number) can)

  numbered : is_number number ≡ true
  numbered = and_right (leb (to + need) room) (is_number number) can

  pub from_1 : 0 < number
  from_1 = ltb-true 0 number (and_left (ltb 0 number) (ltb number last_number) numbered)

  pub has_number : number < last_number
  has_number = ltb-true number last_number (and_right (ltb 0 number) (ltb number last_number) numbered)

-- whatever was told before and however it was reached: from one line on, another is reached
abbrev pub GoesOn : {S : Type 0} → Telling S → List ℕ → S → ℕ → ℕ → ℕ → List ℕ → S → ℕ → ℕ → ℕ → List ℕ → Type 0
GoesOn {S} t input x₀ number₀ used₀ to₀ out₀ x number used to out₁ =
    (s : S) (n : ℕ) (out : List ℕ)
    → Reached t s n input out x₀ number₀ used₀ to₀ out₀
    → Reached t s n input out x number used to out₁

module _ {S : Type 0} (t : Telling S) (s : S) (n : ℕ) (input out : List ℕ) where
  -- before the first line
  pub none_yet : Reached t s n input out s n 0 0 out
  unfolding lines transcript
  none_yet = record { at = at_start t s n input; writes = wrote_none out 0 (omega arith); on = refl }

  -- the buffer keeps its length
  pub same_length : (x : S) (number used to : ℕ) (out₁ : List ℕ) → Reached t s n input out x number used to out₁ → length out₁ ≡ length out
  same_length x number used to out₁ w =
      ap length w.writes.bytes ∙ length_written out 0 (said_over t s n (take used input)) w.writes.fits

  -- the line is told, and the state after it is y
  pub one_more :
      (x : S) (number used to : ℕ) (out₁ : List ℕ) (p : Option Step) (next : ℕ) (y : S) (text : List ℕ) (to' : ℕ) (out₂ : List ℕ)
      → Reached t s n input out x number used to out₁
      → read_at input used ≡ line_of p next
      → can_tell t.room (length out₁) to number ≡ true
      → ((l : List ℕ) → LineAt input used l next → parse_line l ≡ p → (y ≡ t.next x number l) × (text ≡ t.say x number l))
      → WroteIfRoom t.room out₁ to text out₂ to'
      → to' ≤ to + t.room
      → Reached t s n input out y (number + 1) next to' out₂
  one_more x number used to out₁ p next y text to' out₂ w e can is placed most =
      let read = read_line input used p next w.at.inside e in
      let l = read.line in
      let (goes, says) = is l read.at read.gives in
      let wrote = if_room_wrote t.room out₁ to _ out₂ to' (has_room t.room (length out₁) to number can) most placed in
      let next-to : to + length (t.say x number l) ≡ to' = ap (λ (z : List ℕ). to + length z) (sym says) ∙ sym wrote.next in
      let same = same_length x number used to out₁ w in
      let lines_left = whole_lines (drop next input) in
      record {
        at =
            subst (λ (k : ℕ). At t s n input y (number + 1) next k) next-to
            (subst (λ (z : S). At t s n input z (number + 1) next (to + length (t.say x number l))) (sym goes)
            (at_next t s n input x number used to w.at l next read.at));
        writes =
            wrote_as
            (ap (λ (z : List ℕ). said_over t s n (take used input) ++ z) says
            ∙ transcript-next t s n input x number used to w.at l next read.at)
            (wrote_then w.writes wrote);
        on =
            ap (λ (z : S). reach_of t (length out) lines_left z (number + 1) next to') goes
            ∙ ap (λ (k : ℕ). reach_of t (length out) lines_left (t.next x number l) (number + 1) next k) (sym next-to)
            ∙ ap (λ (k : ℕ). reach_of t (length out) lines_left (t.next x number l) (number + 1) k (to + length (t.say x number l)))
            (sym read.offset)
            ∙ sym
            (reach_next t s n input (length out) l lines_left x number used to
            (ap (λ (k : ℕ). can_tell t.room k to number) (sym same) ∙ can))
            ∙ ap (λ (ls : List (List ℕ)). reach_of t (length out) ls x number used to) (sym read.at.onward)
            ∙ w.on;
      }

  -- the loop ends where no other line can be told, or none is left
  module _ (x : S) (number used to : ℕ) (out₁ : List ℕ) (w : Reached t s n input out x number used to out₁) where
    tells : stopped_at x number used to ≡ reach t s n input out → Tells t s n input out (stopped_at x number used to) out₁
    tells e =
        record {
          reached = e;
          writes = w.writes.bytes ∙ ap (λ (r : Reach S). written out 0 (said_over t s n (take r.used input))) e;
          fits = omega (arith, w.writes.next, w.writes.fits);
        }

    pub stops-full : can_tell t.room (length out₁) to number ≡ false → Tells t s n input out (stopped_at x number used to) out₁
    stops-full cannot =
        let same = same_length x number used to out₁ w in
        tells
        (sym
        (reach_full t s n input (length out) (whole_lines (drop used input)) x number used to
        (ap (λ (k : ℕ). can_tell t.room k to number) (sym same) ∙ cannot))
        ∙ w.on)

    pub stops-whole : read_at input used ≡ None → Tells t s n input out (stopped_at x number used to) out₁
    stops-whole e =
        tells
        (sym
        (ap (λ (ls : List (List ℕ)). reach_of t (length out) ls x number used to) (no_line input used e)
        ∙ reach_none t s n input (length out) x number used to)
        ∙ w.on)

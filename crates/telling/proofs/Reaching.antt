-- How far an input is told: the definition `reach` stops past a line, with the bytes, the state and the number that the
-- transcript gives. Assumes nothing.
use Prim.Native.Nat.{ℕ, ◌+◌, ◌-◌, ◌≤◌, ◌<◌}
use mathlib.Core.Path.{◌≡◌, refl, sym, ap, subst, ◌∙◌}
use mathlib.Core.Bool.{true, false}
use mathlib.Core.List.{List, [], ◌∷◌, ◌++◌, append_assoc, nil≢cons}
use native.Mathlib.Omega.{arith}
use lib.ListN.{length, take, drop, length-append, take-append-drop}
use lib.Seq.{length-take-le, take_at, drop_at}
use Rattle.sizes.proofs.Choosing.{when, unless, split, conflict}
use Rattle.stepfile.specs.Grammar.{Reading, found, nothing}
use Rattle.stepfile.specs.Input.{first_line, whole_lines}
use Rattle.stepfile.specs.Transcript.{lines, transcript, after}
use Rattle.stepfile.proofs.FirstLines.{first_line_lem, whole_first, whole_none}
use Rattle.stepfile.proofs.Splitting.{NoLF, breaks_none, breaks_line, count_more}
use Rattle.stepfile.proofs.Transcripts.{after_more, transcript_more}
use Rattle.telling.specs.Lines.{Telling, Reach, can_tell, said_over, state_after, stopped_at, reach_of, reach}
use Rattle.telling.specs.Reached.{At}
use Rattle.telling.proofs.Resting.{no_lf}

-- the line that starts at an offset, and the offset past its LF
pub record LineAt (input : List ℕ) (used : ℕ) (line : List ℕ) (next : ℕ) : Type 0 where
  pub none : NoLF line
  pub upto : take next input ≡ take used input ++ (line ++ (10 ∷ []))
  pub onward : whole_lines (drop used input) ≡ line ∷ whole_lines (drop next input)
  pub later : used < next
  pub inside : next ≤ length input

module _ (input : List ℕ) (used : ℕ) (h : used ≤ length input) (l r : List ℕ) (next : ℕ) (offset : used + length l + 1 ≡ next) where
  pub line_at : first_line (drop used input) ≡ found l r → LineAt input used l next
  line_at q =
      let fl = first_line_lem (drop used input) l r q in
      let a = take used input in
      let whole : input ≡ (a ++ (l ++ (10 ∷ []))) ++ r =
      sym (take-append-drop used input)
      ∙ ap (λ d. a ++ d) fl.text
      ∙ ap (λ d. a ++ d) (sym (append_assoc l (10 ∷ []) r))
      ∙ sym (append_assoc a (l ++ (10 ∷ [])) r) in
      let long : length (a ++ (l ++ (10 ∷ []))) ≡ next =
      length-append a (l ++ (10 ∷ []))
      ∙ omega (arith, length-take-le used input h, length-append l (10 ∷ []), offset) in
      let past : drop next input ≡ r = ap (drop next) whole ∙ drop_at (a ++ (l ++ (10 ∷ []))) r next long in
      record {
        none = fl.none;
        upto = ap (take next) whole ∙ take_at (a ++ (l ++ (10 ∷ []))) r next long;
        onward = whole_first (drop used input) l r fl ∙ ap (λ d. l ∷ whole_lines d) (sym past);
        later = omega arith;
        inside = omega (arith, ap length whole, length-append (a ++ (l ++ (10 ∷ []))) r, long);
      }

-- the line's bytes, without its LF
abbrev pub line_bytes : List ℕ → ℕ → ℕ → List ℕ
line_bytes input used next = take (next - 1 - used) (drop used input)

pub line_bytes_lem : (input : List ℕ) (used next : ℕ) (l : List ℕ) → LineAt input used l next → line_bytes input used next ≡ l
line_bytes_lem input used next l at =
    let a = take used input in
    let long : length (take next input) ≡ length a + (length l + 1) =
    ap length at.upto ∙ length-append a (l ++ (10 ∷ [])) ∙ omega (arith, length-append l (10 ∷ [])) in
    let count : next - 1 - used ≡ length l =
    omega (arith, long, length-take-le next input at.inside, length-take-le used input (omega (arith, at.later, at.inside)), at.later) in
    let whole : drop used input ≡ l ++ ((10 ∷ []) ++ drop next input) =
    ap (drop used) (sym (take-append-drop next input) ∙ ap (λ (x : List ℕ). x ++ drop next input) at.upto
    ∙ append_assoc a (l ++ (10 ∷ [])) (drop next input))
    ∙ drop_at a ((l ++ (10 ∷ [])) ++ drop next input) used (length-take-le used input (omega (arith, at.later, at.inside)))
    ∙ append_assoc l (10 ∷ []) (drop next input) in
    ap (λ (k : ℕ). take k (drop used input)) count
    ∙ ap (take (length l)) whole
    ∙ take_at l ((10 ∷ []) ++ drop next input) (length l) refl

-- the first of the whole lines from an offset on
first_whole : (input : List ℕ) (used : ℕ) → used ≤ length input → (l : List ℕ) (ls : List (List ℕ))
    → whole_lines (drop used input) ≡ l ∷ ls → LineAt input used l (used + length l + 1)
first_whole input used h l ls e = from (first_line (drop used input)) refl
  where
    from : (t : Reading (List ℕ)) → first_line (drop used input) ≡ t → LineAt input used l (used + length l + 1)
    from (found x r) q =
        let f : x ∷ whole_lines r ≡ l ∷ ls = sym (whole_first (drop used input) x r (first_line_lem (drop used input) x r q)) ∙ e in
        let same : x ≡ l = cc in
        line_at input used h l r (used + length l + 1) refl (q ∙ ap (λ k. found k r) same)
    from nothing q =
        let f : [] ≡ l ∷ ls = sym (whole_none (drop used input) (no_lf (drop used input) q)) ∙ e in
        absurd (nil≢cons f)

module _ {S : Type 0} (t : Telling S) (s : S) (n : ℕ) (input : List ℕ) where
  -- before the first line
  pub at_start : At t s n input s n 0 0
  unfolding lines transcript after
  at_start = record { inside = omega arith; breaks = breaks_none; numbers = omega arith; state = refl; size = refl }

  -- past another line
  module _ (x : S) (number used to : ℕ) (w : At t s n input x number used to) (l : List ℕ) (next : ℕ) (at : LineAt input used l next) where
    abbrev a : List ℕ
    a = take used input

    -- what the transcript says of the line
    said-line : t.say x number l ≡ t.say (state_after t s n a) (n + length (lines a)) l
    said-line = ap (λ (k : ℕ). t.say x k l) w.numbers ∙ ap (λ (y : S). t.say y (n + length (lines a)) l) w.state

    pub transcript-next : said_over t s n a ++ t.say x number l ≡ said_over t s n (take next input)
    transcript-next =
        ap (λ (x : List ℕ). said_over t s n a ++ x) said-line
        ∙ sym (transcript_more t.say t.next s n a l w.breaks at.none)
        ∙ ap (said_over t s n) (sym at.upto)

    pub at_next : At t s n input (t.next x number l) (number + 1) next (to + length (t.say x number l))
    at_next =
        record {
          inside = at.inside;
          breaks = rw at.upto (breaks_line a l w.breaks);
          numbers =
              ap (λ (k : ℕ). k + 1) w.numbers
              ∙ omega (arith, ap (λ (x : List ℕ). length (lines x)) at.upto, count_more a l w.breaks at.none);
          state =
              ap (λ (k : ℕ). t.next x k l) w.numbers
              ∙ ap (λ (y : S). t.next y (n + length (lines a)) l) w.state
              ∙ sym (after_more t.next s n a l w.breaks at.none)
              ∙ ap (state_after t s n) (sym at.upto);
          size =
              ap (λ (k : ℕ). k + length (t.say x number l)) w.size
              ∙ sym (length-append (said_over t s n a) (t.say x number l))
              ∙ ap length transcript-next;
        }

  -- one line more, by the definition
  pub reach_next : (room : ℕ) (l : List ℕ) (ls : List (List ℕ)) (x : S) (number used to : ℕ)
      → can_tell t.room room to number ≡ true
      → reach_of t room (l ∷ ls) x number used to
      ≡ reach_of t room ls (t.next x number l) (number + 1) (used + length l + 1) (to + length (t.say x number l))
  unfolding reach_of
  reach_next room l ls x number used to can = when _ _ can

  -- it stops where no other line can be told, and where there is none
  pub reach_full : (room : ℕ) (ls : List (List ℕ)) (x : S) (number used to : ℕ)
      → can_tell t.room room to number ≡ false
      → reach_of t room ls x number used to ≡ stopped_at x number used to
  unfolding reach_of
  reach_full room [] x number used to cannot = refl
  reach_full room (l ∷ ls) x number used to cannot = unless _ _ cannot

  pub reach_none : (room : ℕ) (x : S) (number used to : ℕ) → reach_of t room [] x number used to ≡ stopped_at x number used to
  unfolding reach_of
  reach_none room x number used to = refl

  -- where it stops, and why
  pub record Stop (out : List ℕ) (p : Reach S) : Type 0 where
    pub at : At t s n input p.state p.number p.used p.written
    pub none : can_tell t.room (length out) p.written p.number ≡ true → NoLF (drop p.used input)

  no_whole : (d : List ℕ) → whole_lines d ≡ [] → NoLF d
  no_whole d e = from (first_line d) refl
    where
      from : (t : Reading (List ℕ)) → first_line d ≡ t → NoLF d
      from (found l r) q =
          absurd (nil≢cons (sym e ∙ whole_first d l r (first_line_lem d l r q)))
      from nothing q = no_lf d q

  stop_from : (out : List ℕ) (ls : List (List ℕ)) (x : S) (number used to : ℕ)
      → At t s n input x number used to
      → whole_lines (drop used input) ≡ ls
      → Stop out (reach_of t (length out) ls x number used to)
  stop_from out [] x number used to w e =
      subst (Stop out) (sym (reach_none (length out) x number used to)) (record { at = w; none = λ can. no_whole (drop used input) e })
  stop_from out (l ∷ ls) x number used to w e =
      split (can_tell t.room (length out) to number)
      (λ can.
      let line = first_whole input used w.inside l ls e in
      let f : l ∷ whole_lines (drop (used + length l + 1) input) ≡ l ∷ ls = sym line.onward ∙ e in
      let rest : whole_lines (drop (used + length l + 1) input) ≡ ls = cc in
      subst (Stop out) (sym (reach_next (length out) l ls x number used to can))
      (stop_from out ls (t.next x number l) (number + 1) (used + length l + 1) (to + length (t.say x number l))
      (at_next x number used to w l (used + length l + 1) line)
      rest))
      (λ cannot.
      subst (Stop out) (sym (reach_full (length out) (l ∷ ls) x number used to cannot))
      (record { at = w; none = λ can. conflict can cannot }))

  pub stop : (out : List ℕ) → Stop out (reach t s n input out)
  stop out = stop_from out (whole_lines input) s n 0 0 at_start refl

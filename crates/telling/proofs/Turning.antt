-- What a turn leaves, for any kind of state: whatever follows its bytes in the input, the transcript of all of it is what
-- the turn wrote, and then the transcript of the bytes that it kept and what follows; so with the state. Assumes nothing.
use Prim.Native.Nat.{ℕ, ◌+◌, ◌-◌, ◌≤◌}
use mathlib.Core.Path.{◌≡◌, refl, sym, ap, ◌∙◌}
use mathlib.Core.Bool.{Bool, true, false, not, true≢false}
use mathlib.Core.List.{List, ◌++◌, append_assoc}
use native.Mathlib.Nat.{zero-add}
use native.Mathlib.Omega.{arith}
use lib.Dec.{ltb}
use lib.ListN.{length, take, drop, length-drop, take-append-drop}
use lib.Seq.{length-take-le, take_all, take_at, drop_at, take-take, take-add, take-paste, length-paste}
use borrow.Author.Tests.{ltb-true, ltb-false}
use Rattle.stepfile.specs.Transcript.{lines}
use Rattle.sizes.proofs.Choosing.{when, unless, split}
use Rattle.stepfile.proofs.Splitting.{NoLF}
use Rattle.stepfile.proofs.Transcripts.{after_on, transcript_on}
use Rattle.writer.proofs.Buffers.{length_written}
use Rattle.stepfile.proofs.LongLines.{Blind}
use Rattle.telling.specs.Lines.{Telling, Reach, can_tell, said_over, state_after, reach, out_told}
use Rattle.telling.specs.Turn.{least, Turned, turn_by, buffer_by}
use Rattle.telling.proofs.Reaching.{Stop, stop}
use Rattle.telling.proofs.Resting.{no_lf_take, transcript_cut, after_cut}

-- at most both
pub least_left : (a b : ℕ) → least a b ≤ a
least_left a b =
    split (ltb a b) (λ t. omega (arith, when a b t)) (λ t. omega (arith, unless a b t, ltb-false a b t))

pub least_right : (a b : ℕ) → least a b ≤ b
least_right a b = split (ltb a b) (λ t. omega (arith, when a b t, ltb-true a b t)) (λ t. omega (arith, unless a b t))

-- the first bytes of a list, at most as many as there are
pub take_least : (n : ℕ) (l : List ℕ) → take (least n (length l)) l ≡ take n l
take_least n l =
    split (ltb n (length l))
    (λ t. ap (λ (k : ℕ). take k l) (when _ _ t))
    (λ t.
    ap (λ (k : ℕ). take k l) (unless _ _ t)
    ∙ take_all (length l) l (omega arith)
    ∙ sym (take_all n l (ltb-false n (length l) t)))

pub length_take_least : (n : ℕ) (l : List ℕ) → length (take n l) ≡ least n (length l)
length_take_least n l =
    ap length (sym (take_least n l)) ∙ length-take-le (least n (length l)) l (least_right n (length l))

-- what is left of the first bytes
left_of : (m used : ℕ) (l : List ℕ) → m ≤ length l → used ≤ m → drop used (take m l) ≡ take (m - used) (drop used l)
left_of m used l inside part =
    let whole : m ≡ used + (m - used) = omega arith in
    ap (λ (k : ℕ). drop used (take k l)) whole
    ∙ ap (drop used) (take-add used (m - used) l)
    ∙ drop_at (take used l) (take (m - used) (drop used l)) used (length-take-le used l (omega arith))

module _ {S : Type 0} (t : Telling S) (s : S) (n : ℕ) (buffer : List ℕ) (filled : ℕ) (out : List ℕ) where
  abbrev bytes : List ℕ
  bytes = take filled buffer

  abbrev p : Reach S
  p = reach t s n bytes out

  abbrev u : Turned S
  u = turn_by t s n bytes out

  abbrev kept : List ℕ
  kept = take u.rest (buffer_by t s n buffer bytes out)

  abbrev a : List ℕ
  a = take p.used bytes

  abbrev b : List ℕ
  b = drop p.used bytes

  stops : Stop t s n bytes out p
  stops = stop t s n bytes out

  abbrev can : Bool
  can = can_tell t.room (length out) p.written p.number

  b_long : length b ≡ length bytes - p.used
  b_long = length-drop p.used bytes

  bytes_most : length bytes ≤ length buffer
  bytes_most = rw (length_take_least filled buffer) (least_right filled (length buffer))

  -- what was written is the transcript of the bytes that were told
  pub written_text_lem : take u.written (out_told t s n bytes out) ≡ said_over t s n a
  written_text_lem = take_at (said_over t s n a) (drop (0 + length (said_over t s n a)) out) p.written (sym stops.at.size)

  -- all that is left is kept, or 88 bytes of one line
  by_rest :
      (P : Type 0)
      → (u.rest ≡ length bytes - p.used → P)
      → (can ≡ true → 88 ≤ length bytes - p.used → u.rest ≡ 88 → P)
      → P
  by_rest P all cut =
      split can
      (λ c.
      split (ltb (length bytes - p.used) 88)
      (λ u. all (when _ _ c ∙ when _ _ u))
      (λ u. cut c (ltb-false (length bytes - p.used) 88 u) (when _ _ c ∙ unless _ _ u)))
      (λ c. all (unless _ _ c))

  pub rest_most : u.rest ≤ length bytes - p.used
  rest_most = by_rest (u.rest ≤ length bytes - p.used) (λ e. omega arith) (λ c l e. omega arith)

  pub used_most : p.used ≤ length bytes
  used_most = stops.at.inside

  pub rest_inside : u.rest ≤ length buffer
  rest_inside = omega (arith, rest_most, bytes_most)

  source_long : u.rest ≤ length (drop p.used buffer)
  source_long = rw (length-drop p.used buffer) (omega (arith, rest_most, bytes_most, used_most))

  -- what is left stands in the buffer past what was told
  b_left : b ≡ take (length bytes - p.used) (drop p.used buffer)
  b_left =
      ap (drop p.used) (sym (take_least filled buffer) ∙ ap (λ (k : ℕ). take k buffer) (sym (length_take_least filled buffer)))
      ∙ left_of (length bytes) p.used buffer bytes_most used_most

  -- the bytes that are kept, where they stand after the move
  pub kept_stands : kept ≡ take u.rest b
  kept_stands =
      ap (λ (k : ℕ). take k (buffer_by t s n buffer bytes out)) (sym (zero-add u.rest))
      ∙ take-paste buffer 0 (drop p.used buffer) u.rest (omega arith) source_long
      ∙ sym (ap (take u.rest) b_left ∙ take-take u.rest (length bytes - p.used) (drop p.used buffer) rest_most)

  all_kept : u.rest ≡ length bytes - p.used → kept ≡ b
  all_kept e = kept_stands ∙ take_all u.rest b (omega (arith, b_long))

  cut_kept : u.rest ≡ 88 → kept ≡ take 88 b
  cut_kept e = kept_stands ∙ ap (λ (k : ℕ). take k b) e

  -- a turn that is not paused leaves the start of one line, and room for its LF
  not_paused : (x : Bool) → not x ≡ false → x ≡ true
  not_paused true e = refl
  not_paused false e = absurd (true≢false e)

  pub left_no_lf : u.paused ≡ false → NoLF b
  left_no_lf going = stops.none (not_paused can going)

  pub kept_no_lf : u.paused ≡ false → NoLF kept
  kept_no_lf going = rw kept_stands (no_lf_take u.rest b (left_no_lf going))

  pub kept_short : u.paused ≡ false → u.rest ≤ 88
  kept_short going =
      let c = not_paused can going in
      omega (arith, when (least (length bytes - p.used) 88) (length bytes - p.used) c, least_right (length bytes - p.used) 88)

  -- a turn that is paused keeps all that is left
  is_paused : (x : Bool) → not x ≡ true → x ≡ false
  is_paused true e = absurd (true≢false (sym e))
  is_paused false e = refl

  pub paused_keeps : u.paused ≡ true → kept ≡ b
  paused_keeps e = all_kept (unless _ _ (is_paused can e))

  pub buffer_long : length (buffer_by t s n buffer bytes out) ≡ length buffer
  buffer_long =
      length-paste buffer 0 (drop p.used buffer) u.rest (omega (arith, rest_most, bytes_most)) source_long

  pub out_long : u.written ≤ length out → length (out_told t s n bytes out) ≡ length out
  out_long fits = length_written out 0 (said_over t s n a) (omega (arith, stops.at.size))

  module _ (blind : Blind t.say t.next) where
    kept-transcript : (more : List ℕ) → said_over t p.state p.number (b ++ more) ≡ said_over t p.state p.number (kept ++ more)
    kept-transcript more =
        by_rest _
        (λ e. ap (λ (l : List ℕ). said_over t p.state p.number (l ++ more)) (sym (all_kept e)))
        (λ c l e.
        transcript_cut t blind b (stops.none c) (omega (arith, b_long)) p.state more p.number
        ∙ ap (λ (l : List ℕ). said_over t p.state p.number (l ++ more)) (sym (cut_kept e)))

    kept-after : (more : List ℕ) → state_after t p.state p.number (b ++ more) ≡ state_after t p.state p.number (kept ++ more)
    kept-after more =
        by_rest _
        (λ e. ap (λ (l : List ℕ). state_after t p.state p.number (l ++ more)) (sym (all_kept e)))
        (λ c l e.
        after_cut t blind b (stops.none c) (omega (arith, b_long)) p.state more p.number
        ∙ ap (λ (l : List ℕ). state_after t p.state p.number (l ++ more)) (sym (cut_kept e)))

    whole : (more : List ℕ) → bytes ++ more ≡ a ++ (b ++ more)
    whole more = ap (λ (l : List ℕ). l ++ more) (sym (take-append-drop p.used bytes)) ∙ append_assoc a b more

    -- whatever follows
    pub turn-transcript : (more : List ℕ)
        → said_over t s n (bytes ++ more) ≡ said_over t s n a ++ said_over t u.state u.number (kept ++ more)
    turn-transcript more =
        ap (said_over t s n) (whole more)
        ∙ transcript_on t.say t.next s n a (b ++ more) stops.at.breaks
        ∙ ap (λ (x : S). said_over t s n a ++ said_over t x (n + length (lines a)) (b ++ more)) (sym stops.at.state)
        ∙ ap (λ (k : ℕ). said_over t s n a ++ said_over t p.state k (b ++ more)) (sym stops.at.numbers)
        ∙ ap (λ (l : List ℕ). said_over t s n a ++ l) (kept-transcript more)

    pub turn-state : (more : List ℕ) → state_after t s n (bytes ++ more) ≡ state_after t u.state u.number (kept ++ more)
    turn-state more =
        ap (state_after t s n) (whole more)
        ∙ after_on t.next s n a (b ++ more) stops.at.breaks
        ∙ ap (λ (x : S). state_after t x (n + length (lines a)) (b ++ more)) (sym stops.at.state)
        ∙ ap (λ (k : ℕ). state_after t p.state k (b ++ more)) (sym stops.at.numbers)
        ∙ kept-after more

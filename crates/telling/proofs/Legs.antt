-- A turn of the program, for any kind of state: what it writes, and what will be written of the rest, are what is told of
-- its bytes and of all that follows; what it leaves is sound. Assumes nothing.
use Prim.Native.Nat.{ℕ, ◌+◌, ◌≤◌, ◌<◌}
use mathlib.Core.Path.{◌≡◌, refl, sym, ap, subst, ◌∙◌}
use mathlib.Core.Bool.{true, false, not}
use mathlib.Core.List.{List, [], ◌∷◌, ◌++◌, append_assoc, append-nil}
use native.Mathlib.Nat.{add-zero}
use native.Mathlib.Omega.{arith}
use lib.Dec.{eqb, leb}
use lib.ListN.{length, take, drop}
use lib.Seq.{take_at}
use borrow.Author.Tests.{le-leb, eqb-true}
use Rattle.sizes.proofs.Choosing.{when, unless, split, conflict, and_left, and_right}
use Rattle.stepfile.specs.Transcript.{lines, transcript, after}
use Rattle.stepfile.proofs.Splitting.{NoLF}
use Rattle.stepfile.proofs.LongLines.{Blind}
use Rattle.telling.specs.Lines.{Telling, said_over, state_after, reach}
use Rattle.telling.specs.Turn.{turn_by, buffer_by, completed_buffer, completed_count}
use Rattle.telling.specs.Session.{Standing, Moved, standing_at, wants_input, is_last_turn, reads_nothing, filled, turn_buffer_of, turn_bytes, with_turn, closed_by, out_moved}
use Rattle.telling.specs.Run.{Leg, moved_on, left_on, wrote_on, TakesTurn}
use Rattle.telling.proofs.Flags.{or_right, or_either, not_true, wants, wants_not_paused, over_wants_none, paused_wants_none, still_paused, still_reads}
use Rattle.telling.proofs.Completing.{take_none, Terminated, terminated_none, terminated_drop, last_line, last_terminated}
use Rattle.telling.proofs.Turning.{take_least, kept_stands, kept_no_lf, kept_short, left_no_lf, paused_keeps, written_text_lem, turn-transcript, turn-state}

module _ {S : Type 0} (t : Telling S) (σ : Standing S) where
  -- the state that a session comes to over bytes, and what it writes: what is said of them, and the end
  abbrev pub end_on : List ℕ → S
  end_on bytes = state_after t σ.state σ.number bytes

  abbrev pub told_on : List ℕ → List ℕ
  told_on bytes = said_over t σ.state σ.number bytes ++ t.close (end_on bytes)

  pub end_none : end_on [] ≡ σ.state
  unfolding lines after
  end_none = refl

  pub told_none : told_on [] ≡ t.close σ.state
  unfolding lines transcript after
  told_none = refl

  -- bytes with the same lines are told alike
  pub end_alike : (a b : List ℕ) → lines a ≡ lines b → end_on a ≡ end_on b
  end_alike a b e = ap (after t.next σ.state σ.number) e

  pub told_alike : (a b : List ℕ) → lines a ≡ lines b → told_on a ≡ told_on b
  told_alike a b e =
      ap
      (λ (ls : List (List ℕ)).
      transcript t.say t.next σ.state σ.number ls ++ t.close (after t.next σ.state σ.number ls))
      e

-- What stands between two turns: a session that is to read has the start of one line, for which there is room; one
-- whose input is over has whole lines, and nothing once they are told.
pub record Sound {S : Type 0} (σ : Standing S) (kept : List ℕ) : Type 0 where
  pub reading : wants_input σ ≡ true → NoLF kept × (σ.rest ≤ 88)
  pub whole : σ.over ≡ true → Terminated kept
  pub empty : is_last_turn σ ≡ true → kept ≡ []

pub start_sound : {S : Type 0} (s : S) (buffer : List ℕ) → Sound (standing_at s) (take 0 buffer)
start_sound s buffer =
    record { reading = λ e. (tt, omega arith); whole = λ e. conflict e refl; empty = λ e. conflict e refl }

-- a turn of the program
module _ {S : Type 0} (t : Telling S) (blind : Blind t.say t.next) (σ : Standing S) (buffer : List ℕ) (g : Leg) (takes : TakesTurn t σ buffer g) (sound : Sound σ (take σ.rest buffer)) where
  abbrev kept : List ℕ
  kept = take σ.rest buffer

  abbrev got : ℕ
  got = length g.piece

  abbrev b₁ : List ℕ
  b₁ = turn_buffer_of σ got g.buffer

  abbrev count : ℕ
  count = filled σ.paused σ.rest got g.buffer

  abbrev bytes : List ℕ
  bytes = turn_bytes σ got g.buffer

  abbrev out_after : List ℕ
  out_after = out_moved t σ got g.buffer g.out

  -- nothing was read: the rest stands where it stood
  stands : g.piece ≡ [] → take σ.rest g.buffer ≡ kept
  stands e =
      let none : got ≡ 0 = ap length e in
      ap (λ (k : ℕ). take k g.buffer) (sym (add-zero σ.rest) ∙ ap (λ (k : ℕ). σ.rest + k) (sym none))
      ∙ takes.found
      ∙ ap (λ (l : List ℕ). kept ++ l) e
      ∙ append-nil kept

  -- the last turn
  module _ (last : is_last_turn σ ≡ true) where
    is-over : σ.over ≡ true
    is-over = and_left σ.over (not σ.paused) last

    room : leb t.close_room (length g.out) ≡ true
    room = le-leb t.close_room (length g.out) takes.space

    closes : moved_on t σ g ≡ closed_by t σ g.out
    closes = when _ _ last

    pub is-done : (moved_on t σ g).standing.done ≡ true
    is-done = ap (λ (x : Moved S). x.standing.done) closes ∙ room

    pub wrote-end : wrote_on t σ g ≡ t.close σ.state
    wrote-end =
        ap (λ (x : Moved S). take x.written out_after) closes
        ∙ ap (λ (k : ℕ). take k out_after) (when _ _ room)
        ∙ ap (take (length (t.close σ.state))) (when _ _ last ∙ when _ _ room)
        ∙ take_at (t.close σ.state) (drop (0 + length (t.close σ.state)) g.out) (length (t.close σ.state)) refl

    pub same_state : (moved_on t σ g).standing.state ≡ σ.state
    same_state = ap (λ (x : Moved S). x.standing.state) closes

    pub nothing_left : (more : List ℕ) → more ≡ [] → kept ++ (g.piece ++ more) ≡ []
    nothing_left more e =
        ap (λ (l : List ℕ). l ++ (g.piece ++ more)) (sound.empty last)
        ∙ ap (λ (l : List ℕ). l ++ more) (takes.reading (over_wants_none σ.paused σ.over is-over))
        ∙ e

  -- any other turn
  module _ (other : is_last_turn σ ≡ false) where
    abbrev next : Standing S
    next = (moved_on t σ g).standing

    abbrev kept' : List ℕ
    kept' = take next.rest (left_on t σ g)

    abbrev after_turn : Moved S
    after_turn = with_turn σ got (turn_by t σ.state σ.number bytes g.out)

    plays : moved_on t σ g ≡ after_turn
    plays = unless _ _ other

    leaves : left_on t σ g ≡ buffer_by t σ.state σ.number b₁ bytes g.out
    leaves = unless _ _ other

    abbrev turn : Standing S
    turn = after_turn.standing

    abbrev turn_kept : List ℕ
    turn_kept = take turn.rest (buffer_by t σ.state σ.number b₁ bytes g.out)

    same_kept : kept' ≡ turn_kept
    same_kept = ap (λ (x : Moved S). take x.standing.rest (left_on t σ g)) plays ∙ ap (take turn.rest) leaves

    -- what the turn writes, and what will be written of the rest, are all of it
    abbrev used : ℕ
    used = (reach t σ.state σ.number bytes g.out).used

    abbrev Written : List ℕ
    Written = said_over t σ.state σ.number (take used bytes)

    wrote-lines : wrote_on t σ g ≡ Written
    wrote-lines =
        ap (λ (x : Moved S). take x.written out_after) plays
        ∙ ap (take after_turn.written) (unless _ _ other)
        ∙ written_text_lem t σ.state σ.number b₁ count g.out

    pub wrote-first : (more : List ℕ) → told_on t σ (bytes ++ more) ≡ wrote_on t σ g ++ told_on t next (kept' ++ more)
    wrote-first more =
        let s = σ.state in
        let n = σ.number in
        let later = said_over t turn.state turn.number (turn_kept ++ more) in
        ap (λ (x : S). said_over t s n (bytes ++ more) ++ t.close x) (turn-state t s n b₁ count g.out blind more)
        ∙ ap (λ (l : List ℕ). l ++ t.close (end_on t turn (turn_kept ++ more))) (turn-transcript t s n b₁ count g.out blind more)
        ∙ append_assoc Written later (t.close (end_on t turn (turn_kept ++ more)))
        ∙ ap (λ (l : List ℕ). l ++ told_on t turn (turn_kept ++ more)) (sym wrote-lines)
        ∙ ap (λ (l : List ℕ). wrote_on t σ g ++ told_on t turn (l ++ more)) (sym same_kept)
        ∙ ap (λ (x : Moved S). wrote_on t σ g ++ told_on t x.standing (kept' ++ more)) (sym plays)

    -- and the state that it leaves comes to the same
    pub same_end : (more : List ℕ) → end_on t σ (bytes ++ more) ≡ end_on t next (kept' ++ more)
    same_end more =
        turn-state t σ.state σ.number b₁ count g.out blind more
        ∙ ap (λ (l : List ℕ). end_on t turn (l ++ more)) (sym same_kept)
        ∙ ap (λ (x : Moved S). end_on t x.standing (kept' ++ more)) (sym plays)

    -- what is told: the rest; the rest and what was read; at the end of the input the rest and LF
    paused-bytes : σ.paused ≡ true → bytes ≡ kept
    paused-bytes e =
        rw e (stands (takes.reading (paused_wants_none σ.paused σ.over e)))

    read-bytes : σ.paused ≡ false → eqb got 0 ≡ false → bytes ≡ kept ++ g.piece
    read-bytes e some = rw (e, some) (take_least (σ.rest + got) g.buffer ∙ takes.found)

    last-bytes : σ.paused ≡ false → eqb got 0 ≡ true
        → bytes ≡ take (completed_count g.buffer σ.rest) (completed_buffer g.buffer σ.rest)
    last-bytes e none = rw (e, none)

    -- at the end of the input there is room for LF after the rest, which has none
    module _ (e : σ.paused ≡ false) (none : eqb got 0 ≡ true) where
      nothing_read : g.piece ≡ []
      nothing_read = from g.piece (eqb-true got 0 none)
        where
          from : (l : List ℕ) → length l ≡ 0 → l ≡ []
          from [] long = refl
          from (x ∷ l) long = absurd (omega arith)

      one_line : NoLF kept × (σ.rest ≤ 88)
      one_line = sound.reading (wants σ.paused σ.over e (still_reads σ.paused σ.over other e))

      pub has_room : σ.rest < length g.buffer
      has_room = omega (arith, one_line.1, takes.room)

      pub same_lines : lines kept ≡ lines bytes
      same_lines =
          ap lines (sym (stands nothing_read))
          ∙ sym (last_line g.buffer σ.rest has_room (rw (stands nothing_read) one_line.0))
          ∙ ap lines (sym (last-bytes e none))

    -- so the bytes that are told, and what follows, have the lines of what was read
    pub same-input : (more : List ℕ) → (reads_nothing σ.paused got ≡ true → more ≡ [])
        → lines (kept ++ (g.piece ++ more)) ≡ lines (bytes ++ more)
    same-input more ended =
        split σ.paused
        (λ e.
        let empty = takes.reading (paused_wants_none σ.paused σ.over e) in
        ap (λ (l : List ℕ). lines (kept ++ (l ++ more))) empty ∙ ap (λ (l : List ℕ). lines (l ++ more)) (sym (paused-bytes e)))
        (λ e.
        split (eqb got 0)
        (λ none.
        let nil = ended (rw (e, none)) in
        ap (λ (l : List ℕ). lines (kept ++ (l ++ more))) (nothing_read e none)
        ∙ ap (λ (l : List ℕ). lines (kept ++ l)) nil
        ∙ ap lines (append-nil kept)
        ∙ same_lines e none
        ∙ ap lines (sym (append-nil bytes))
        ∙ ap (λ (l : List ℕ). lines (bytes ++ l)) (sym nil))
        (λ some.
        ap lines (sym (append_assoc kept g.piece more)) ∙ ap (λ (l : List ℕ). lines (l ++ more)) (sym (read-bytes e some))))

    -- once the input is over, what is told ends with LF
    ends-whole : turn.over ≡ true → Terminated bytes
    ends-whole ended =
        split σ.over
        (λ e. subst Terminated (sym (paused-bytes (still_paused σ.paused σ.over other e))) (sound.whole e))
        (λ e.
        let nothing = or_either σ.over (reads_nothing σ.paused got) ended e in
        let going = not_true σ.paused (and_left (not σ.paused) (eqb got 0) nothing) in
        let none = and_right (not σ.paused) (eqb got 0) nothing in
        subst Terminated (sym (last-bytes going none)) (last_terminated g.buffer σ.rest (has_room going none)))

    none_kept : turn.over ≡ true → turn.paused ≡ false → turn_kept ≡ []
    none_kept ended going =
        kept_stands t σ.state σ.number b₁ count g.out
        ∙ ap (take turn.rest) (ends-whole ended used (left_no_lf t σ.state σ.number b₁ count g.out going))
        ∙ take_none turn.rest

    turn-sound : Sound turn turn_kept
    turn-sound =
        record {
          reading = λ e.
              let going = wants_not_paused turn.paused turn.over e in
              (kept_no_lf t σ.state σ.number b₁ count g.out going, kept_short t σ.state σ.number b₁ count g.out going);
          whole = λ ended.
              split turn.paused
              (λ e.
              subst Terminated (sym (paused_keeps t σ.state σ.number b₁ count g.out e)) (terminated_drop bytes used (ends-whole ended)))
              (λ e. subst Terminated (sym (none_kept ended e)) terminated_none);
          empty = λ last.
              none_kept (and_left turn.over (not turn.paused) last) (not_true turn.paused (and_right turn.over (not turn.paused) last));
        }

    pub still-sound : Sound next kept'
    still-sound =
        subst (λ (l : List ℕ). Sound next l) (sym same_kept)
        (subst (λ (x : Moved S). Sound x.standing turn_kept) (sym plays) turn-sound)

    pub still-going : next.done ≡ false
    still-going = ap (λ (x : Moved S). x.standing.done) plays

    pub now-over : reads_nothing σ.paused got ≡ true → next.over ≡ true
    now-over e = ap (λ (x : Moved S). x.standing.over) plays ∙ or_right σ.over (reads_nothing σ.paused got) e

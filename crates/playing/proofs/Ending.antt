-- The end of a turn and the session after it, for any kind of state: the player's, the counter's and the explainer's
-- are these. Assumes nothing.
use Prim.Native.Nat.{ℕ, min, ◌≤◌}
use mathlib.Core.Path.{◌≡◌, refl, sym, ap, ◌∙◌, subst⁻¹}
use mathlib.Core.Bool.{Bool, false}
use mathlib.Core.List.{List}
use native.Mathlib.Omega.{arith}
use lib.Dec.{leb, ltb}
use lib.ListN.{length, take, drop}
use lib.Seq.{paste}
use borrow.Author.Tests.{ltb-true, ltb-false}
use Rattle.sizes.proofs.Choosing.{when, unless, split}
use Rattle.sizes.specs.declared.sizes.Sizes.{Sizes}
use Rattle.writer.specs.Buffer.{WroteIfRoom}
use Rattle.telling.specs.Lines.{Telling, Tells, can_tell}
use Rattle.telling.specs.Turn.{least, Turns}
use Rattle.telling.specs.Session.{Moves, Moved, filled, turn_buffer_of, closed_by, with_turn}
use Rattle.telling.proofs.Parts.{used_inside, same_out, turn-taken, close_written, other-move}
use Rattle.playing.specs.declared.lines.Progress.{Progress}
use Rattle.playing.specs.declared.turn.Turn.{Turn}
use Rattle.playing.specs.declared.session.Session.{Session}
use Rattle.playing.specs.declared.session.Advance.{Advance}
use Rattle.playing.specs.Lines.{reach_with}
use Rattle.playing.specs.Turn.{turn_after, turned_with}
use Rattle.playing.specs.Session.{is_told, over_after, after_turn, after_close, standing_with, moved_with}

-- the smaller of two, as the turn takes it
pub smaller : (a b : ℕ) → min a b ≡ least a b
smaller a b =
    split (ltb a b)
    (λ e. let low = ltb-true a b e in omega (arith, low) ∙ sym (when _ _ e))
    (λ e. let high = ltb-false a b e in omega (arith, high) ∙ sym (unless _ _ e))

-- m bytes are told, and the state of the sizes that were reached is x of them
module _
    {S : Type 0} (t : Telling S) (x : Sizes → S) (s : S) (n : ℕ) (buffer : List ℕ) (filled : ℕ) (out : List ℕ) (m : ℕ)
    (p : Progress) (out' : List ℕ) (counted : m ≡ min filled (length buffer))
    (tells : Tells t s n (take m buffer) out (reach_with p (x p.sizes)) out') where
  as_least : m ≡ least filled (length buffer)
  as_least = counted ∙ smaller filled (length buffer)

  pub told_inside : p.used ≤ m
  told_inside = used_inside t s n buffer filled out m _ out' as_least tells

  pub turn_ended :
      (room : ℕ) (u : Turn) (buffer' : List ℕ)
      → can_tell t.room room p.written p.number ≡ can_tell t.room (length out) p.written p.number
      → u ≡ turn_after p t.room room m
      → buffer' ≡ paste buffer 0 (drop p.used buffer) u.rest
      → Turns t s n buffer filled out (turned_with u (x u.sizes)) buffer' out'
  turn_ended room u buffer' can is moved =
      subst⁻¹ (λ (v : Turn). Turns t s n buffer filled out (turned_with v (x v.sizes)) buffer' out') is
      (turn-taken t s n buffer filled out m _ out' as_least tells _ _ can refl buffer'
      (moved ∙ ap (λ (v : Turn). paste buffer 0 (drop p.used buffer) v.rest) is))

  -- where the room that is asked for is that of the output buffer
  pub turn_ended_there :
      (u : Turn) (buffer' : List ℕ)
      → u ≡ turn_after p t.room (length out') m
      → buffer' ≡ paste buffer 0 (drop p.used buffer) u.rest
      → Turns t s n buffer filled out (turned_with u (x u.sizes)) buffer' out'
  turn_ended_there u buffer' is moved =
      turn_ended (length out') u buffer'
      (ap (λ (k : ℕ). can_tell t.room k p.written p.number) (same_out t s n buffer filled out m _ out' as_least tells))
      is moved

-- the session goes on from a turn, and ends
module _ {S : Type 0} (t : Telling S) (x : Sizes → S) (σ : Session) (out : List ℕ) (r : Advance) where
  pub turn_moved :
      (s : S) (got : ℕ) (buffer b₁ : List ℕ) (n : ℕ) (over : Bool) (u : Turn) (buffer' out' : List ℕ)
      → b₁ ≡ turn_buffer_of (standing_with σ s) got buffer
      → n ≡ filled σ.paused σ.rest got buffer
      → is_told σ ≡ false
      → over ≡ over_after σ got
      → Turns t s σ.number b₁ n out (turned_with u (x u.sizes)) buffer' out'
      → r.session ≡ after_turn σ u over
      → r.written ≡ u.written
      → Moves t (standing_with σ s) got buffer out (moved_with r (x r.session.sizes)) buffer' out'
  turn_moved s got buffer b₁ n over u buffer' out' filling count more ends turns session written =
      let is : moved_with r (x r.session.sizes) ≡ with_turn (standing_with σ s) got (turned_with u (x u.sizes)) =
      rw (session, written, ends) refl in
      subst⁻¹ (λ (v : Moved S). Moves t (standing_with σ s) got buffer out v buffer' out') is
      (other-move t (standing_with σ s) got buffer out b₁ n filling count (turned_with u (x u.sizes)) buffer' out' more turns)

  pub close_moved :
      (done : Bool) (out' : List ℕ) (k : ℕ)
      → WroteIfRoom t.close_room out 0 (t.close (x σ.sizes)) out' k
      → done ≡ leb t.close_room (length out)
      → r.session ≡ after_close σ done
      → r.written ≡ k
      → moved_with r (x r.session.sizes) ≡ closed_by t (standing_with σ (x σ.sizes)) out
  close_moved done out' k placed is session written =
      rw (session, written, is, close_written t (standing_with σ (x σ.sizes)) out out' k placed) refl

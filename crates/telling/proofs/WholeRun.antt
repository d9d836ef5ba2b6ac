-- A whole run, for any kind of state: what the program writes until the session is done is what is told of what it read,
-- however the input was cut into pieces, and whether its last line has its LF or not; and the session then has the state
-- after all lines. Assumes nothing.
use Prim.Native.Nat.{ℕ}
use mathlib.Core.Path.{◌≡◌, refl, sym, ap, ◌∙◌}
use mathlib.Core.Bool.{true, false}
use mathlib.Core.List.{List, [], ◌∷◌, ◌++◌, append-nil}
use lib.ListN.{length, take}
use Rattle.sizes.proofs.Choosing.{when, unless, split, conflict}
use Rattle.stepfile.proofs.LongLines.{Blind}
use Rattle.telling.specs.Lines.{Telling, said_over, state_after}
use Rattle.telling.specs.Session.{Standing, Moved, standing_at, is_last_turn, reads_nothing}
use Rattle.telling.specs.Run.{Leg, moved_on, left_on, wrote_on, TakesTurns, written_by, last_standing, input}
use Rattle.telling.proofs.Flags.{or_left, over_wants_none}
use Rattle.telling.proofs.Legs.{end_on, told_on, end_none, told_none, end_alike, told_alike, Sound, start_sound, is-done, wrote-end, same_state, nothing_left, wrote-first, same_end, same-input, still-sound, still-going, now-over}

module _ {S : Type 0} (t : Telling S) where
  -- a session whose input is over stays so, and reads nothing more
  over_kept : (σ : Standing S) (g : Leg) → σ.over ≡ true → (moved_on t σ g).standing.over ≡ true
  over_kept σ g e =
      split (is_last_turn σ)
      (λ last. ap (λ (x : Moved S). x.standing.over) (when _ _ last) ∙ e)
      (λ other. ap (λ (x : Moved S). x.standing.over) (unless _ _ other) ∙ or_left σ.over (reads_nothing σ.paused (length g.piece)) e)

  over_input : (σ : Standing S) (buffer : List ℕ) (gs : List Leg) → σ.over ≡ true → TakesTurns t σ buffer gs → input gs ≡ []
  over_input σ buffer [] e w = refl
  over_input σ buffer (g ∷ gs) e w =
      ap (λ (l : List ℕ). l ++ input gs) (w.0.reading (over_wants_none σ.paused σ.over e))
      ∙ over_input (moved_on t σ g).standing (left_on t σ g) gs (over_kept σ g e) w.1

  -- nothing follows a session that is done
  done_last : (σ : Standing S) (buffer : List ℕ) (gs : List Leg) → σ.done ≡ true → TakesTurns t σ buffer gs → gs ≡ []
  done_last σ buffer [] e w = refl
  done_last σ buffer (g ∷ gs) e w = conflict e w.0.going

  module _ (blind : Blind t.say t.next) where
    -- From any sound session on: what is written, and the state at the end.
    run-from : (gs : List Leg) (σ : Standing S) (buffer : List ℕ)
        → Sound σ (take σ.rest buffer) → TakesTurns t σ buffer gs → σ.done ≡ false → (last_standing t σ gs).done ≡ true
        → (written_by t σ gs ≡ told_on t σ (take σ.rest buffer ++ input gs))
        × ((last_standing t σ gs).state ≡ end_on t σ (take σ.rest buffer ++ input gs))
    run-from [] σ buffer sound w going ended = conflict ended going
    run-from (g ∷ gs) σ buffer sound w going ended =
        let after = (moved_on t σ g).standing in
        split (is_last_turn σ)
        (λ last.
        let none = done_last after (left_on t σ g) gs (is-done t blind σ buffer g w.0 sound last) w.1 in
        let empty = nothing_left t blind σ buffer g w.0 sound last (input gs) (ap input none) in (
          ap (λ (l : List ℕ). l ++ written_by t after gs) (wrote-end t blind σ buffer g w.0 sound last)
              ∙ ap (λ (l : List Leg). t.close σ.state ++ written_by t after l) none
              ∙ append-nil (t.close σ.state)
              ∙ sym (ap (told_on t σ) empty ∙ told_none t σ),
          ap (λ (l : List Leg). (last_standing t after l).state) none
              ∙ same_state t blind σ buffer g w.0 sound last
              ∙ sym (ap (end_on t σ) empty ∙ end_none t σ),
        ))
        (λ other.
        let rest =
        run-from gs after (left_on t σ g) (still-sound t blind σ buffer g w.0 sound other) w.1 (still-going t blind σ buffer g w.0 sound other) ended in
        let same =
        same-input t blind σ buffer g w.0 sound other (input gs)
        (λ e. over_input after (left_on t σ g) gs (now-over t blind σ buffer g w.0 sound other e) w.1) in (
          ap (λ (l : List ℕ). wrote_on t σ g ++ l) rest.0
              ∙ sym (wrote-first t blind σ buffer g w.0 sound other (input gs))
              ∙ sym (told_alike t σ _ _ same),
          rest.1 ∙ sym (same_end t blind σ buffer g w.0 sound other (input gs)) ∙ sym (end_alike t σ _ _ same),
        ))

    -- from a start
    module _ (s : S) (buffer : List ℕ) (gs : List Leg) (w : TakesTurns t (standing_at s) buffer gs) (ended : (last_standing t (standing_at s) gs).done ≡ true) where
      pub run-tells : written_by t (standing_at s) gs ≡ said_over t s 1 (input gs) ++ t.close (state_after t s 1 (input gs))
      run-tells = (run-from gs (standing_at s) buffer (start_sound s buffer) w refl ended).0

      pub run-comes : (last_standing t (standing_at s) gs).state ≡ state_after t s 1 (input gs)
      run-comes = (run-from gs (standing_at s) buffer (start_sound s buffer) w refl ended).1

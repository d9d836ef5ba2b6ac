-- What the parts of a turn give, put together: the turn that the definition has, and a session's turn from its own parts,
-- for any kind of state. Assumes nothing.
use Prim.Native.Nat.{ℕ, ◌+◌, ◌-◌, ◌≤◌}
use mathlib.Core.Path.{◌≡◌, sym, ap, ◌∙◌}
use mathlib.Core.Bool.{Bool, true, false, cond, not}
use mathlib.Core.List.{List}
use native.Mathlib.Nat.{zero-add}
use native.Mathlib.Omega.{arith}
use lib.Dec.{leb}
use lib.ListN.{length, take, drop}
use lib.Seq.{paste}
use borrow.Author.Tests.{leb-true}
use Rattle.sizes.proofs.Choosing.{when, unless, split}
use Rattle.writer.specs.Buffer.{written, WroteIfRoom}
use Rattle.telling.specs.Lines.{Telling, Reach, Tells, can_tell, reach, out_told}
use Rattle.telling.specs.Turn.{least, kept_of, Turned, Turns, turn_by, buffer_by}
use Rattle.telling.specs.Session.{Standing, Moved, Moves, is_last_turn, reads_nothing, filled, turn_buffer_of, turn_bytes, closed_by, with_turn, out_closed}
use Rattle.telling.proofs.Completing.{completed_long}
use Rattle.telling.proofs.Turning.{take_least, length_take_least, used_most, rest_most, rest_inside, buffer_long, out_long}

-- a turn: m bytes are told, and telling them came so far
module _
    {S : Type 0} (t : Telling S) (s : S) (n : ℕ) (buffer : List ℕ) (filled : ℕ) (out : List ℕ) (m : ℕ) (p : Reach S)
    (out' : List ℕ) (counted : m ≡ least filled (length buffer)) (tells : Tells t s n (take m buffer) out p out') where
  abbrev bytes : List ℕ
  bytes = take filled buffer

  same_bytes : take m buffer ≡ bytes
  same_bytes = ap (λ (k : ℕ). take k buffer) counted ∙ take_least filled buffer

  is_progress : p ≡ reach t s n bytes out
  is_progress = tells.reached ∙ ap (λ (l : List ℕ). reach t s n l out) same_bytes

  is_written : out' ≡ out_told t s n bytes out
  is_written = tells.writes ∙ ap (λ (l : List ℕ). out_told t s n l out) same_bytes

  count : m ≡ length bytes
  count = counted ∙ sym (length_take_least filled buffer)

  pub used_inside : p.used ≤ m
  used_inside =
      omega (arith, count, ap (λ (x : Reach S). x.used) is_progress, used_most t s n buffer filled out)

  pub same_out : length out' ≡ length out
  same_out =
      ap length is_written
      ∙ out_long t s n buffer filled out (omega (arith, tells.fits, ap (λ (x : Reach S). x.written) is_progress))

  -- and so many bytes are kept
  module _ (can : Bool) (rest : ℕ) (canned : can ≡ can_tell t.room (length out) p.written p.number) (kept : rest ≡ kept_of can (m - p.used)) where
    abbrev u : Turned S
    u = record { state = p.state; number = p.number; rest = rest; written = p.written; paused = not can }

    is-turn : u ≡ turn_by t s n bytes out
    is-turn = rw (kept, canned, count, is_progress)

    pub rest_part : rest ≤ m - p.used
    rest_part =
        omega
        (arith, count, ap (λ (x : Turned S). x.rest) is-turn, ap (λ (x : Reach S). x.used) is_progress, rest_most t s n buffer filled out)

    pub turn-taken : (buffer' : List ℕ) → buffer' ≡ paste buffer 0 (drop p.used buffer) rest
        → Turns t s n buffer filled out u buffer' out'
    turn-taken buffer' moved =
        record {
          turned = is-turn;
          moves =
              moved
              ∙ ap (λ (x : Reach S). paste buffer 0 (drop x.used buffer) rest) is_progress
              ∙ ap (λ (x : Turned S). paste buffer 0 (drop (reach t s n bytes out).used buffer) x.rest) is-turn;
          writes = is_written;
          fits = tells.fits;
          inside = omega (arith, ap (λ (x : Turned S). x.rest) is-turn, rest_inside t s n buffer filled out);
        }

-- a turn leaves the buffers their lengths
module _
    {S : Type 0} (t : Telling S) (s : S) (n : ℕ) (buffer : List ℕ) (filled : ℕ) (out : List ℕ) (u : Turned S)
    (buffer' out' : List ℕ) (w : Turns t s n buffer filled out u buffer' out') where
  pub turn_buffer_long : length buffer' ≡ length buffer
  turn_buffer_long = ap length w.moves ∙ buffer_long t s n buffer filled out

  pub turn_out_long : length out' ≡ length out
  turn_out_long =
      ap length w.writes ∙ out_long t s n buffer filled out (omega (arith, w.fits, ap (λ (x : Turned S). x.written) w.turned))

-- the end, written where there is room for it
module _
    {S : Type 0} (t : Telling S) (σ : Standing S) (out out' : List ℕ) (r : ℕ)
    (placed : WroteIfRoom t.close_room out 0 (t.close σ.state) out' r) where
  abbrev text : List ℕ
  text = t.close σ.state

  pub close_written : r ≡ (closed_by t σ out).written
  close_written =
      placed.next
      ∙ ap (λ (k : ℕ). cond (leb (0 + t.close_room) (length out)) k 0) (zero-add (length text))
      ∙ ap (λ (k : ℕ). cond (leb k (length out)) (length text) 0) (zero-add t.close_room)

  pub close_out : out' ≡ out_closed t σ out
  close_out = placed.bytes ∙ ap (λ (k : ℕ). cond (leb k (length out)) (written out 0 text) out) (zero-add t.close_room)

  pub close_fits : r ≤ 0 + t.close_room → r ≤ length out
  close_fits most =
      split (leb t.close_room (length out))
      (λ e. omega (arith, leb-true t.close_room (length out) e))
      (λ e. omega (arith, close_written ∙ unless _ _ e))

-- a session's turn
module _ {S : Type 0} (t : Telling S) (σ : Standing S) (got : ℕ) (buffer out : List ℕ) where
  -- the last one writes the end
  pub last_move : (m : Moved S) (out' : List ℕ) → is_last_turn σ ≡ true → m ≡ closed_by t σ out → out' ≡ out_closed t σ out
      → m.written ≤ length out → Moves t σ got buffer out m buffer out'
  last_move m out' last e f fits =
      record {
        moved = e ∙ sym (when _ _ last);
        keeps = sym (when _ _ last);
        writes = f ∙ sym (when _ _ last);
        fits = fits;
        inside = omega (arith, ap (λ (x : Moved S). x.standing.rest) e);
      }

  -- any other tells what fills the buffer
  module _ (b₁ : List ℕ) (n : ℕ) (filling : b₁ ≡ turn_buffer_of σ got buffer) (count : n ≡ filled σ.paused σ.rest got buffer) where
    same-filled : take n b₁ ≡ turn_bytes σ got buffer
    same-filled =
        ap (λ (k : ℕ). take k b₁) count ∙ ap (take (filled σ.paused σ.rest got buffer)) filling

    still-long : length b₁ ≡ length buffer
    still-long =
        ap length filling
        ∙ split (reads_nothing σ.paused got)
        (λ e. ap length (when _ _ e) ∙ completed_long buffer σ.rest)
        (λ e. ap length (unless _ _ e))

    pub other-move : (u : Turned S) (buffer' out' : List ℕ) → is_last_turn σ ≡ false
        → Turns t σ.state σ.number b₁ n out u buffer' out' → Moves t σ got buffer out (with_turn σ got u) buffer' out'
    other-move u buffer' out' more w =
        record {
          moved =
              ap (with_turn σ got) w.turned
              ∙ ap (λ (l : List ℕ). with_turn σ got (turn_by t σ.state σ.number l out)) same-filled
              ∙ sym (unless _ _ more);
          keeps =
              w.moves
              ∙ ap (λ (l : List ℕ). buffer_by t σ.state σ.number b₁ l out) same-filled
              ∙ ap (λ (l : List ℕ). buffer_by t σ.state σ.number l (turn_bytes σ got buffer) out) filling
              ∙ sym (unless _ _ more);
          writes =
              w.writes ∙ ap (λ (l : List ℕ). out_told t σ.state σ.number l out) same-filled ∙ sym (unless _ _ more);
          fits = w.fits;
          inside = omega (arith, w.inside, still-long);
        }

-- The flags of a session: what a session that is paused, or whose input is over, still wants. Assumes nothing.
use mathlib.Core.Path.{◌≡◌, refl}
use mathlib.Core.Bool.{Bool, true, false, not, ◌&&◌, ◌||◌}
use Rattle.sizes.proofs.Choosing.{conflict}

pub or_left : (a b : Bool) → a ≡ true → (a || b) ≡ true
or_left true b e = refl
or_left false b e = conflict e refl

pub or_right : (a b : Bool) → b ≡ true → (a || b) ≡ true
or_right true b e = refl
or_right false b e = e

pub or_either : (a b : Bool) → (a || b) ≡ true → a ≡ false → b ≡ true
or_either true b e f = conflict refl f
or_either false b e f = e

pub not_true : (x : Bool) → not x ≡ true → x ≡ false
not_true true e = conflict e refl
not_true false e = refl

pub wants : (paused over : Bool) → paused ≡ false → over ≡ false → not (paused || over) ≡ true
wants paused over e f = rw (e, f)

pub wants_not_paused : (paused over : Bool) → not (paused || over) ≡ true → paused ≡ false
wants_not_paused true over e = conflict e refl
wants_not_paused false over e = refl

pub over_wants_none : (paused over : Bool) → over ≡ true → not (paused || over) ≡ false
over_wants_none true over e = refl
over_wants_none false over e = rw e

pub paused_wants_none : (paused over : Bool) → paused ≡ true → not (paused || over) ≡ false
paused_wants_none paused over e = rw e

-- where a session whose input is over has another turn than its last, it is paused; where it is not paused and not at
-- its last, it reads
pub still_paused : (paused over : Bool) → (over && not paused) ≡ false → over ≡ true → paused ≡ true
still_paused true over e f = refl
still_paused false over e f = conflict (and_true over f) e
  where
    and_true : (a : Bool) → a ≡ true → (a && true) ≡ true
    and_true true e = refl
    and_true false e = e

pub still_reads : (paused over : Bool) → (over && not paused) ≡ false → paused ≡ false → over ≡ false
still_reads paused true e f = conflict (rw f) e
still_reads paused false e f = refl

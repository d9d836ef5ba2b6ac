-- Texts written into a buffer, one after the other. Assumes nothing.
use Prim.Native.Nat.{ℕ, suc, ◌+◌, ◌≤◌, ◌<◌}
use mathlib.Core.Path.{◌≡◌, refl, sym, ◌∙◌, ap, ap₂, subst}
use mathlib.Core.Bool.{Bool, true, false, cond}
use mathlib.Core.List.{List, [], ◌∷◌, ◌++◌, append_assoc}
use native.Mathlib.Nat.{add-zero, add_assoc}
use native.Mathlib.Numerals.{add-one}
use native.Mathlib.Omega.{arith}
use lib.Dec.{leb}
use lib.ListN.{length, take, drop, set, length-set, length-append, length-take, length-drop, take-append-drop}
use lib.Seq.{length-take-le, set_split, set-append_left, take-set-le, take-set-lt, take-suc-set, drop-set-lt, take_at, drop_at, drop-drop}
use borrow.Author.Tests.{le-leb, lt-leb}
use Rattle.writer.specs.Buffer.{written, Wrote, WroteIfRoom}
use Rattle.sizes.proofs.Choosing.{when, unless}

-- nothing is written
pub written_none : (d : List ℕ) (at : ℕ) → written d at [] ≡ d
written_none d at = rw (add-zero at) (take-append-drop at d)

pub wrote_none : (d : List ℕ) (at : ℕ) → at ≤ length d → Wrote d at [] d at
wrote_none d at h = record { bytes = sym (written_none d at); next = sym (add-zero at); fits = omega arith }

-- the buffer keeps its length
pub length_written : (d : List ℕ) (at : ℕ) (s : List ℕ) → at + length s ≤ length d → length (written d at s) ≡ length d
length_written d at s h = simp (length-append, length-take, length-drop) (omega arith)

-- a byte is stored
pub wrote_byte : (d : List ℕ) (at b : ℕ) → at < length d → Wrote d at (b ∷ []) (set d at b) (at + 1)
wrote_byte d at b h =
    record { bytes = rw (set_split d at b h, add-one at); next = refl; fits = omega arith }

-- a byte is stored before a text
pub written_before : (d : List ℕ) (at b : ℕ) (s : List ℕ) → at < length d → set (written d (suc at) s) at b ≡ written d at (b ∷ s)
written_before d at b s h =
    let r = s ++ drop (suc at + length s) d in
    let inside : at < length (take (suc at) d) = rw (length-take-le (suc at) d h) (omega arith) in
    let same : suc at + length s ≡ at + suc (length s) = omega arith in
    set-append_left (take (suc at) d) r at b inside
    ∙ ap (λ l. l ++ r) (sym (take-set-lt (suc at) d at b (omega arith)) ∙ take-suc-set d at b h)
    ∙ append_assoc (take at d) (b ∷ []) r
    ∙ ap (λ k. take at d ++ (b ∷ (s ++ drop k d))) same

-- one text after another is the two together
module _ (d : List ℕ) (at : ℕ) (s t : List ℕ) (fits : at + length s ≤ length d) where
  front : length (take at d ++ s) ≡ at + length s
  front = rw (length-append (take at d) s, length-take-le at d (omega arith))

  written_twice : written (written d at s) (at + length s) t ≡ written d at (s ++ t)
  written_twice =
      let p = take at d in
      let q = drop (at + length s) d in
      let regroup : written d at s ≡ (p ++ s) ++ q = sym (append_assoc p s q) in
      let past : drop (at + length s + length t) (written d at s) ≡ drop (at + length (s ++ t)) d =
      sym (drop-drop (length t) (at + length s) (written d at s))
      ∙ ap (λ l. drop (length t) (drop (at + length s) l)) regroup
      ∙ ap (drop (length t)) (drop_at (p ++ s) q (at + length s) front)
      ∙ drop-drop (length t) (at + length s) d
      ∙ ap (λ k. drop k d) (add_assoc at (length s) (length t) ∙ ap (λ k. at + k) (sym (length-append s t))) in
      ap (λ l. l ++ (t ++ drop (at + length s + length t) (written d at s)))
      (ap (take (at + length s)) regroup ∙ take_at (p ++ s) q (at + length s) front)
      ∙ ap (λ l. (p ++ s) ++ (t ++ l)) past
      ∙ simp append_assoc

pub wrote_then : {d : List ℕ} {at : ℕ} {s : List ℕ} {d₁ : List ℕ} {at₁ : ℕ} {t : List ℕ} {d₂ : List ℕ} {at₂ : ℕ}
    → Wrote d at s d₁ at₁ → Wrote d₁ at₁ t d₂ at₂ → Wrote d at (s ++ t) d₂ at₂
wrote_then {d} {at} {s} {d₁} {at₁} {t} {d₂} {at₂} v w =
    let kept : length d₁ ≡ length d = ap length v.bytes ∙ length_written d at s v.fits in
    record {
      bytes = w.bytes ∙ ap (λ k. written d₁ k t) v.next ∙ ap (λ l. written l (at + length s) t) v.bytes
          ∙ written_twice d at s t v.fits;
      next = rw (length-append s t) (omega (arith, v.next, w.next));
      fits = rw (length-append s t) (omega (arith, v.next, w.fits));
    }

-- the same text in other words
pub wrote_as : {d : List ℕ} {at : ℕ} {s t : List ℕ} {d' : List ℕ} {at' : ℕ} → s ≡ t → Wrote d at s d' at' → Wrote d at t d' at'
wrote_as {d} {at} {s} {t} {d'} {at'} e w = subst (λ l. Wrote d at l d' at') e w

-- a byte is stored, and a text is written past it or over it
module _ (d : List ℕ) (at b : ℕ) (t : List ℕ) {d₂ : List ℕ} {at₂ : ℕ} (inside : at < length d) (some : 1 ≤ length t) where
  wrote_over : Wrote (set d at b) at t d₂ at₂ → Wrote d at t d₂ at₂
  wrote_over w =
      let front = take-set-le at d at b (omega arith) in
      let rest = drop-set-lt (at + length t) d at b (omega arith) in
      record {
        bytes = w.bytes ∙ ap₂ (λ (p q : List ℕ). p ++ (t ++ q)) front rest;
        next = w.next;
        fits = omega (arith, w.fits, length-set d at b);
      }

  leading : (stays : Bool) {next : ℕ} → next ≡ at + cond stays 1 0 → Wrote (set d at b) next t d₂ at₂
      → Wrote d at (cond stays (b ∷ t) t) d₂ at₂
  leading true {next} past w = wrote_then (wrote_byte d at b inside) (subst (λ k. Wrote (set d at b) k t d₂ at₂) past w)
  leading false {next} past w =
      let same : next ≡ at = omega (arith, past) in
      wrote_over (subst (λ k. Wrote (set d at b) k t d₂ at₂) same w)

  pub wrote_leading : (stays : Bool) {d₁ : List ℕ} {next byte : ℕ} → byte ≡ b → d₁ ≡ set d at byte → next ≡ at + cond stays 1 0
      → Wrote d₁ next t d₂ at₂ → Wrote d at (cond stays (b ∷ t) t) d₂ at₂
  wrote_leading stays {d₁} {next} {byte} is stored past w =
      leading stays past (subst (λ l. Wrote l next t d₂ at₂) (stored ∙ ap (set d at) is) w)

-- by the room: a text is written, or nothing is
module _ (room : ℕ) (d : List ℕ) (at : ℕ) (s : List ℕ) (d' : List ℕ) (at' : ℕ) where
  pub wrote_if_room : at + room ≤ length d → Wrote d at s d' at' → WroteIfRoom room d at s d' at'
  wrote_if_room h w =
      record { bytes = w.bytes ∙ sym (when _ _ (le-leb _ _ h)); next = w.next ∙ sym (when _ _ (le-leb _ _ h)) }

  pub wrote_in_room : leb (at + room) (length d) ≡ true → Wrote d at s d' at' → WroteIfRoom room d at s d' at'
  wrote_in_room h w = record { bytes = w.bytes ∙ sym (when _ _ h); next = w.next ∙ sym (when _ _ h) }

  pub if_room_wrote : at + room ≤ length d → at' ≤ at + room → WroteIfRoom room d at s d' at' → Wrote d at s d' at'
  if_room_wrote h k p =
      let next : at' ≡ at + length s = p.next ∙ when _ _ (le-leb _ _ h) in
      record { bytes = p.bytes ∙ when _ _ (le-leb _ _ h); next = next; fits = omega arith }

pub no_room_wrote : (room : ℕ) (d : List ℕ) (at : ℕ) (s : List ℕ) → length d < at + room → WroteIfRoom room d at s d at
no_room_wrote room d at s h =
    record { bytes = sym (unless _ _ (lt-leb _ _ h)); next = sym (unless _ _ (lt-leb _ _ h)) }

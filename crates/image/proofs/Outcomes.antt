-- What writing an image answers and leaves in the buffer, from the refusal that was found. Assumes nothing.
use Prim.Native.Nat.{ℕ, ◌+◌, ◌≤◌}
use mathlib.Core.Path.{◌≡◌, refl, sym, ◌∙◌, ap}
use mathlib.Core.Bool.{Bool, true, false}
use mathlib.Core.List.{List, [], ◌∷◌, ◌++◌}
use native.Mathlib.Nat.{zero-add}
use native.Mathlib.Omega.{arith}
use lib.Dec.{eqb, ltb}
use lib.ListN.{length, take, drop}
use lib.Seq.{take_at}
use borrow.Author.Tests.{ltb-false}
use Rattle.std.specs.Prelude.{⊤, Ok, Err}
use Rattle.std.specs.declared.result.Result.{Result}
use Rattle.sizes.proofs.Choosing.{when, unless}
use Rattle.sizes.specs.declared.sizes.Sizes.{Sizes}
use Rattle.decision.specs.Lists.{count, first_of}
use Rattle.protocol.specs.declared.refusal.Refusal.{Refusal}
use Rattle.protocol.specs.declared.refusal.Refusal.TheVariants.{InRecovery, OpenWaitsAtWriting, BufferTooShort}
use Rattle.protocol.specs.Entry.{waits}
use Rattle.protocol.specs.Refused.{number_of}
use Rattle.table.specs.TableStep.{entry_of}
use Rattle.service.specs.declared.service.Service.{Service}
use Rattle.service.specs.Contents.{sizes_of, table_in}
use Rattle.writer.specs.Buffer.{Wrote}
use Rattle.image.specs.Image.{image_bytes, image_of}
use Rattle.image.specs.Writing.{open_waiting, refusal_to_write, image_written, buffer_after, Tells}

-- the number of the first of the three tests that holds
abbrev first : Bool → Bool → Bool → ℕ
first a b c = first_of ((a, 5) ∷ (b, 15) ∷ (c, 16) ∷ [])

found : (a b c : Bool) (r : Refusal)
    → refusal_to_write a b c ≡ Err r
    → (number_of r ≡ first a b c) × (eqb (first a b c) 0 ≡ false)
found true b c r e = let is : InRecovery ≡ r = cc in (sym (ap number_of is), refl)
found false true c r e = let is : OpenWaitsAtWriting ≡ r = cc in (sym (ap number_of is), refl)
found false false true r e = let is : BufferTooShort ≡ r = cc in (sym (ap number_of is), refl)
found false false false r e = cc

passed : (a b c : Bool) (x : ⊤) → refusal_to_write a b c ≡ Ok x → (first a b c ≡ 0) × (c ≡ false)
passed true b c x e = cc
passed false true c x e = cc
passed false false true x e = cc
passed false false false x e = (refl, refl)

-- the bytes that were written at the start of a buffer
pub written_first : {d s d' : List ℕ} {n : ℕ} → Wrote d 0 s d' n → take n d' ≡ s
written_first {d} {s} {d'} {n} w =
    ap (take n) w.bytes ∙ take_at s (drop (0 + length s) d) n (sym (w.next ∙ zero-add (length s)))

module _
    (s : Service)
    (out : List ℕ)
    (z : Sizes)
    (force : z ≡ sizes_of s)
    (d image : List ℕ)
    (n : ℕ)
    (wrote : Wrote d 0 (image_bytes z (table_in s).files s.server.used s.server.blocks (table_in s).embargoed) image n)
    (waiting : Bool)
    (is-waiting : waiting ≡ ltb 0 (count z.files (λ f. waits z.clients (entry_of (table_in s).files f))))
    (r : Result ⊤ Refusal)
    (tested : r ≡ refusal_to_write (table_in s).recovering waiting (ltb (length out) n)) where
  bytes_are : image_bytes z (table_in s).files s.server.used s.server.blocks (table_in s).embargoed ≡ image_of s
  bytes_are = ap (λ z. image_bytes z (table_in s).files s.server.used s.server.blocks (table_in s).embargoed) force

  length_is : n ≡ length (image_of s)
  length_is = wrote.next ∙ zero-add _ ∙ ap length bytes_are

  abbrev refusal : Result ⊤ Refusal
  refusal = refusal_to_write (table_in s).recovering (ltb 0 (open_waiting s)) (ltb (length out) (length (image_of s)))

  refusal_is : r ≡ refusal
  refusal_is =
      tested
      ∙ ap (λ b. refusal_to_write (table_in s).recovering b (ltb (length out) n))
      (is-waiting ∙ ap (λ z. ltb 0 (count z.files (λ f. waits z.clients (entry_of (table_in s).files f)))) force)
      ∙ ap (λ n. refusal_to_write (table_in s).recovering (ltb 0 (open_waiting s)) (ltb (length out) n)) length_is

  pub room : (x : ⊤) → r ≡ Ok x → n ≤ length out
  room x ok =
      let passes = (passed _ _ _ x (sym refusal_is ∙ ok)).1 in
      let fits : length (image_of s) ≤ length out = ltb-false (length out) (length (image_of s)) passes in
      omega (arith, length_is)

  pub refused :
      (k : Refusal)
      → r ≡ Err k
      → (Err k ≡ image_written s (length out)) × ((out ≡ buffer_after s out) × Tells s (length out) (Err k))
  unfolding image_written buffer_after
  refused k err =
      let is : refusal ≡ Err k = sym refusal_is ∙ err in
      let (number, fails) = found _ _ _ k is in (
        rw is,
        (sym (unless _ _ fails), record { refusal = number; values = sym (unless _ _ fails) }),
      )

  pub accepted :
      {out' : List ℕ}
      → (x : ⊤)
      → r ≡ Ok x
      → out' ≡ take n image ++ drop n out
      → (Ok n ≡ image_written s (length out)) × ((out' ≡ buffer_after s out) × Tells s (length out) (Ok n))
  unfolding image_written buffer_after
  accepted x ok copied =
      let is : refusal ≡ Ok x = sym refusal_is ∙ ok in
      let passes = (passed _ _ _ x is).0 in (
        rw is (ap Ok length_is),
        (
          copied
              ∙ ap (λ l. l ++ drop n out) (written_first wrote ∙ bytes_are)
              ∙ ap (λ k. image_of s ++ drop k out) (wrote.next ∙ ap (λ l. 0 + length l) bytes_are)
              ∙ sym (when _ _ (ap (λ k. eqb k 0) passes)),
          record {
            refusal = sym passes;
            values = ap (λ k. k ∷ []) length_is ∙ sym (when _ _ (ap (λ k. eqb k 0) passes));
          },
        ),
      )

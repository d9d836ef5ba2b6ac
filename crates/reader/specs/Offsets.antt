-- What a reader's answer says of the bytes s: an answer gives an offset in them, and the rest is what stands from that
-- offset on.
use Rattle.std.specs.Prelude.{◌≡◌, ℕ, List, drop, Option, Some, None}
use Rattle.protocol.specs.declared.step.Step.{Step}
use Rattle.reader.specs.declared.found.Found.{Found}
use Rattle.stepfile.specs.Grammar.{Reading, found, nothing, Shape, shaped}

abbrev pub found_in : {A : Type 0} → List ℕ → Option (Found A) → Reading A
found_in s (Some f) = found f.value (drop f.next s)
found_in s None = nothing

-- where the numbers are there, the shape that they lead to goes on after them
abbrev pub pair_in : List ℕ → (ℕ → ℕ → Shape) → Option (Found (ℕ × ℕ)) → Reading Step
pair_in s f (Some p) = shaped (f p.value.0 p.value.1) (drop p.next s)
pair_in s f None = nothing

abbrev pub triple_in : List ℕ → (ℕ → ℕ → ℕ → Shape) → Option (Found (ℕ × ℕ × ℕ)) → Reading Step
triple_in s f (Some t) = shaped (f t.value.0 t.value.1 t.value.2) (drop t.next s)
triple_in s f None = nothing

-- what is found becomes a step, with the same offset past it
abbrev pub MapsTo : {A : Type 0} → (A → Step → Type 0) → Option (Found A) → Option (Found Step) → Type 0
MapsTo makes (Some f) r = (x : Step) × makes f.value x × (r ≡ Some (record { value = x; next = f.next }))
MapsTo makes None r = r ≡ None

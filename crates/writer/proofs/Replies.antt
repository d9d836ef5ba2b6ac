-- The texts of a reply line, as the writer puts them together. Assumes nothing.
use Prim.Native.Nat.{ℕ}
use mathlib.Core.Path.{◌≡◌, sym, ◌∙◌, ap}
use mathlib.Core.List.{[], ◌∷◌, append-nil}
use borrow.Author.Tests.{eq-eqb, ne_eqb}
use Rattle.decision.specs.Callback.{call_if}
use Rattle.sizes.proofs.Choosing.{when, unless}
use Rattle.stepfile.specs.Line.{call_text, calls_text}

-- a kind that is no callback, and one that is
pub no_call_text_lem : (client kind : ℕ) → kind ≡ 0 → [] ≡ calls_text (call_if client kind)
unfolding calls_text
no_call_text_lem client kind none = ap calls_text (sym (when [] ((client, kind) ∷ []) (eq-eqb kind 0 none)))

pub call_text_lem : (client kind : ℕ) → (kind ≡ 0 → ⊥) → call_text (client, kind) ≡ calls_text (call_if client kind)
unfolding calls_text
call_text_lem client kind called =
    sym (append-nil (call_text (client, kind)))
    ∙ ap calls_text (sym (unless [] ((client, kind) ∷ []) (ne_eqb kind 0 called)))

-- What is said of the callbacks: of all of them, as of the first and of the rest, and so it grows with each client;
-- and of one. Assumes nothing.
use Prim.Native.Nat.{ℕ, suc, ◌+◌}
use mathlib.Core.Path.{◌≡◌, refl, sym, ◌∙◌, ap}
use mathlib.Core.List.{List, [], ◌∷◌, ◌++◌, append_assoc, append-nil}
use native.Mathlib.Numerals.{add-one}
use lib.ListN.{get_or}
use borrow.Author.Tests.{eq-eqb, ne_eqb}
use Rattle.sizes.proofs.Choosing.{when, unless}
use Rattle.decision.specs.Callback.{call_if, ordered_calls}
use Rattle.writer.specs.Buffer.{Wrote}
use Rattle.writer.proofs.Buffers.{wrote_then, wrote_as}
use Rattle.phrases.specs.Accepted.{call_text, calls_text}

calls_append : (a b : List (ℕ × ℕ)) → calls_text (a ++ b) ≡ calls_text a ++ calls_text b
unfolding calls_text
calls_append [] b = refl
calls_append (call ∷ a) b =
    ap (λ t. call_text call ++ t) (calls_append a b) ∙ sym (append_assoc (call_text call) (calls_text a) (calls_text b))

calls_next :
    (n : ℕ) (kinds : List ℕ)
    → calls_text (ordered_calls (suc n) kinds) ≡ calls_text (ordered_calls n kinds) ++ calls_text (call_if n (get_or kinds n 0))
unfolding ordered_calls
calls_next n kinds = calls_append (ordered_calls n kinds) (call_if n (get_or kinds n 0))

pub wrote_call :
    (n : ℕ) (kinds : List ℕ) {d : List ℕ} {at : ℕ} {d' : List ℕ} {next : ℕ} {d'' : List ℕ} {past : ℕ}
    → Wrote d at (calls_text (ordered_calls n kinds)) d' next
    → Wrote d' next (calls_text (call_if n (get_or kinds n 0))) d'' past
    → Wrote d at (calls_text (ordered_calls (n + 1) kinds)) d'' past
wrote_call n kinds so_far more = rw (add-one n) (wrote_as (sym (calls_next n kinds)) (wrote_then so_far more))

-- a kind that is no callback, and one that is
pub no_call_text_lem : (client kind : ℕ) → kind ≡ 0 → [] ≡ calls_text (call_if client kind)
unfolding calls_text
no_call_text_lem client kind none = ap calls_text (sym (when [] ((client, kind) ∷ []) (eq-eqb kind 0 none)))

pub call_text_lem : (client kind : ℕ) → (kind ≡ 0 → ⊥) → call_text (client, kind) ≡ calls_text (call_if client kind)
unfolding calls_text
call_text_lem client kind called =
    sym (append-nil (call_text (client, kind)))
    ∙ ap calls_text (sym (unless [] ((client, kind) ∷ []) (ne_eqb kind 0 called)))

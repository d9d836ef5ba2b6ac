-- Callbacks are told in the order in which they go out: the text of a list of them is that of its first part, then that
-- of the rest, and so it grows with each client. Assumes nothing.
use Prim.Native.Nat.{ℕ, suc}
use mathlib.Core.Path.{◌≡◌, refl, sym, ◌∙◌, ap}
use mathlib.Core.List.{List, [], ◌∷◌, ◌++◌, append_assoc}
use lib.ListN.{get_or}
use Rattle.decision.specs.Callback.{call_if, ordered_calls}
use Rattle.stepfile.specs.Line.{call_text, calls_text}

pub calls_append : (a b : List (ℕ × ℕ)) → calls_text (a ++ b) ≡ calls_text a ++ calls_text b
unfolding calls_text
calls_append [] b = refl
calls_append (call ∷ a) b =
    ap (λ t. call_text call ++ t) (calls_append a b) ∙ sym (append_assoc (call_text call) (calls_text a) (calls_text b))

-- one client more
pub calls_next :
    (n : ℕ) (kinds : List ℕ)
    → calls_text (ordered_calls (suc n) kinds) ≡ calls_text (ordered_calls n kinds) ++ calls_text (call_if n (get_or kinds n 0))
unfolding ordered_calls
calls_next n kinds = calls_append (ordered_calls n kinds) (call_if n (get_or kinds n 0))

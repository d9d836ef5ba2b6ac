-- The callbacks of one open go out by ascending client, and those go out that are due, for any number of clients.
-- Assumes nothing.
use Prim.Native.Nat.{ℕ, zero, suc, ◌≤◌, ◌<◌}
use mathlib.Core.Path.{◌≡◌, refl, sym, ap, ◌∙◌, subst, subst⁻¹}
use mathlib.Core.List.{List, [], ◌∷◌, ◌++◌, append-nil}
use mathlib.Core.List.{Memᴰ as Member}
use mathlib.Core.List.Memᴰ
use mathlib.Core.Logic.{◌↔◌, ◌≢◌, ⊎_elim}
use native.Mathlib.Nat.{eq-or-lt_of_le, le_of_suc-le-suc}
use native.Mathlib.Omega.{arith}
use lib.Dec.{eqb}
use lib.ListN.{length, get_or}
use borrow.Author.Tests.{eqb-false, ne_eqb}
use Rattle.records.specs.declared.record.Mode.{Mode}
use Rattle.records.specs.declared.record.ClientRecord.{ClientRecord}
use Rattle.sizes.proofs.Choosing.{when, unless, split}
use Rattle.decision.specs.Callback.{callback_due, callbacks_due, call_if, ordered_calls, Ascending, InOrder}
use Rattle.decision.proofs.Storing.{get_d_stored, get_d_stored_other}

-- the callback to one client
from_call : (i k : ℕ) (c : ℕ × ℕ) → Member c (call_if i k) → (c ≡ (i, k)) × (k ≢ 0)
from_call i k c m =
    split (eqb k 0)
    (λ e. absurd (Memᴰ.not-nil (subst (Member c) (when _ _ e) m)))
    (λ e. (Memᴰ.eq_of_singleton (subst (Member c) (unless _ _ e) m), eqb-false k 0 e))

to_call : (i k : ℕ) → k ≢ 0 → Member (i, k) (call_if i k)
to_call i k called = subst⁻¹ (Member (i, k)) (unless _ _ (ne_eqb k 0 called)) (Member.head refl)

-- who is in the list is called
abbrev Called : ℕ → List ℕ → ℕ × ℕ → Type 0
Called n kinds c = (c.0 < n) × (c.1 ≡ get_or kinds c.0 0) × (c.1 ≢ 0)

is_called : (n : ℕ) (kinds : List ℕ) (c : ℕ × ℕ) → Member c (ordered_calls n kinds) → Called n kinds c
unfolding ordered_calls
is_called zero kinds c m = absurd (Memᴰ.not-nil m)
is_called (suc n) kinds c m =
    ⊎_elim (λ before. let (below, kind, called) = is_called n kinds c before in (omega arith, kind, called))
    (λ last. let (is, called) = from_call n (get_or kinds n 0) c last in
    subst⁻¹ (Called (suc n) kinds) is (omega arith, refl, called))
    (Memᴰ.append_cases (ordered_calls n kinds) m)

-- who is called is in the list
is_there : (n : ℕ) (kinds : List ℕ) (i : ℕ)
    → i < n → get_or kinds i 0 ≢ 0 → Member (i, get_or kinds i 0) (ordered_calls n kinds)
unfolding ordered_calls
is_there zero kinds i below called = absurd (omega arith)
is_there (suc n) kinds i below called =
    ⊎_elim
    (λ (e : i ≡ n). Memᴰ.append_right (ordered_calls n kinds)
    (subst (λ j. Member (i, get_or kinds i 0) (call_if j (get_or kinds j 0))) e (to_call i (get_or kinds i 0) called)))
    (λ (less : i < n). Memᴰ.append_left (call_if n (get_or kinds n 0)) (is_there n kinds i less called))
    (eq-or-lt_of_le (le_of_suc-le-suc below))

-- one more callback, to a client above those of the list
ascending_then : (l : List (ℕ × ℕ)) (c : ℕ × ℕ)
    → Ascending l → ((b : ℕ × ℕ) → Member b l → b.0 < c.0) → Ascending (l ++ (c ∷ []))
ascending_then [] c a above = (λ later m. absurd (Memᴰ.not-nil m), tt)
ascending_then (b ∷ l) c a above = (
  λ later m. ⊎_elim (λ before. a.0 later before)
      (λ last. subst⁻¹ (λ (d : ℕ × ℕ). b.0 < d.0) (Memᴰ.eq_of_singleton last) (above b (Member.head refl)))
      (Memᴰ.append_cases l m),
  ascending_then l c a.1 (λ d m. above d (Member.tail m)),
)

ascends : (n : ℕ) (kinds : List ℕ) → Ascending (ordered_calls n kinds)
unfolding ordered_calls
ascends zero kinds = tt
ascends (suc n) kinds =
    let l = ordered_calls n kinds in
    split (eqb (get_or kinds n 0) 0)
    (λ e. subst⁻¹ (λ r. Ascending (l ++ r)) (when _ _ e) (subst⁻¹ Ascending (append-nil l) (ascends n kinds)))
    (λ e. subst⁻¹ (λ r. Ascending (l ++ r)) (unless _ _ e)
    (ascending_then l _ (ascends n kinds) (λ b m. (is_called n kinds b m).0)))

pub in_order : (n : ℕ) (kinds : List ℕ) → InOrder n kinds
in_order n kinds =
    record {
      ascending = ascends n kinds;
      exactly = λ i k. (
        is_called n kinds (i, k),
        λ h. subst⁻¹ (λ j. Member (i, j) (ordered_calls n kinds)) h.1
            (is_there n kinds i h.0 (subst (λ j. j ≢ 0) h.1 h.2)),
      );
    }

-- no client from n on is called
abbrev pub NonePast : ℕ → List ℕ → Type 0
NonePast n kinds = (i : ℕ) → n ≤ i → get_or kinds i 0 ≡ 0

-- so the callbacks to k clients, n or more, are those to n
pub calls_past : (n k : ℕ) (kinds : List ℕ) → n ≤ k → NonePast n kinds → ordered_calls k kinds ≡ ordered_calls n kinds
unfolding ordered_calls
calls_past n zero kinds h none = let all : 0 ≡ n = omega arith in ap (λ (j : ℕ). ordered_calls j kinds) all
calls_past n (suc k) kinds h none =
    ⊎_elim (λ (e : n ≡ suc k). ap (λ (j : ℕ). ordered_calls j kinds) (sym e))
    (λ (less : n < suc k).
    let below : n ≤ k = le_of_suc-le-suc less in
    ap (λ (kind : ℕ). ordered_calls k kinds ++ call_if k kind) (none k below)
    ∙ append-nil (ordered_calls k kinds)
    ∙ calls_past n k kinds below none)
    (eq-or-lt_of_le h)

-- the callbacks that an open causes, in a list of kinds that has a place for each client: each client's is the one that
-- it is due
module _ (n : ℕ) (r : ℕ → ClientRecord) (last opener : ℕ) (mode : Mode) (l : List ℕ) (room : n ≤ length l) where
  pub kind_due : (i : ℕ) → i < n → get_or (callbacks_due n r last opener mode l) i 0 ≡ callback_due n r last opener mode i
  kind_due i below =
      get_d_stored n (λ j. j) (callback_due n r last opener mode) l 0 i below (omega arith) (λ k above _. omega arith)

  -- past the clients the list has what it had
  pub none_due_past : NonePast n l → NonePast n (callbacks_due n r last opener mode l)
  none_due_past none i past =
      get_d_stored_other n (λ j. j) (callback_due n r last opener mode) l 0 i (λ k below. omega arith) ∙ none i past

  pub due_in_order :
      (i k : ℕ)
      → Member (i, k) (ordered_calls n (callbacks_due n r last opener mode l))
      ↔ ((i < n) × (k ≡ callback_due n r last opener mode i) × (k ≢ 0))
  due_in_order i k =
      let exactly = (in_order n (callbacks_due n r last opener mode l)).exactly i k in (
        λ m. let (below, kind, called) = exactly.0 m in (below, kind ∙ kind_due i below, called),
        λ h. exactly.1 (h.0, h.1 ∙ sym (kind_due i h.0), h.2),
      )

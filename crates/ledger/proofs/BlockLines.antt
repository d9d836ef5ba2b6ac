-- The lines of one block in the ledger, after other lines are put at a place and after a sweep over places. It leads to
-- what stands in the ledger after a line. Assumes nothing.
use Prim.Native.Nat.{ℕ, zero, suc, ◌+◌, ◌*◌, ◌≤◌, ◌<◌}
use native.Mathlib.Omega.{arith}
use mathlib.Core.Path.{◌≡◌, refl, sym, ap, ◌∙◌, subst}
use mathlib.Core.Bool.{Bool, true, false, cond}
use mathlib.Core.List.{List}
use lib.Dec.{eqb}
use lib.ListN.{length, get_or, set, length-set}
use lib.Seq.{get_or-set_other}
use borrow.Author.Tests.{eqb-true, eqb-false, eq-eqb, ne_eqb}
use Rattle.sizes.specs.Sizes.{max_places, max_cells}
use Rattle.service.proofs.Tests.{split}
use Rattle.service.proofs.Lists.{get_d_set}
use Rattle.ledger.specs.declared.ledger.Ledger.{Ledger}
use Rattle.ledger.specs.declared.lines.Lines.{Lines}
use Rattle.ledger.specs.Ledger.{notes, beginnings, lines_in, with_lines, came_lines, lost_lines, came_from}
use Rattle.ledger.specs.Ledger.{lost_below}

-- the lists of a ledger have the lengths of their arrays
pub record Ruled (l : Ledger) : Type 0 where
  pub written : length l.written ≡ notes
  pub writers : length l.writers ≡ notes
  pub copied : length l.copied ≡ max_cells
  pub since : length l.since ≡ beginnings

-- the lines of copies, waits and embargoes stay
pub record Rest (l m : Ledger) : Type 0 where
  pub copied : m.copied ≡ l.copied
  pub since : m.since ≡ l.since

-- ---- other lines at place p, read at place q

-- three stores, and what is read at three places
module _ (p q : ℕ) (hp : p < max_places) (hq : q < max_places) (l : List ℕ) (len : length l ≡ notes) (a b c : ℕ) where
  shifted : (k : ℕ) → eqb (k + q) (k + p) ≡ eqb q p
  shifted k =
      split (eqb q p)
      (λ e. eq-eqb (k + q) (k + p) (ap (λ x. k + x) (eqb-true q p e)) ∙ sym e)
      (λ e.
      let other = eqb-false q p e in
      ne_eqb (k + q) (k + p) (λ same. other (omega (arith, same))) ∙ sym e)

  abbrev first : List ℕ
  first = set l p a

  abbrev second : List ℕ
  second = set first (max_places + p) b

  abbrev third : List ℕ
  third = set second (2 * max_places + p) c

  first_long : length first ≡ notes
  first_long = length-set l p a ∙ len

  second_long : length second ≡ notes
  second_long = length-set first (max_places + p) b ∙ first_long

  pub third_long : length third ≡ notes
  third_long = length-set second (2 * max_places + p) c ∙ second_long

  pub at_first : get_or third q 0 ≡ cond (eqb q p) a (get_or l q 0)
  at_first =
      get_or-set_other second (2 * max_places + p) q c 0 (λ e. omega (arith, e))
      ∙ get_or-set_other first (max_places + p) q b 0 (λ e. omega (arith, e))
      ∙ get_d_set l p q a 0 (eqb q p) (omega (arith, len)) refl

  pub at_second : get_or third (max_places + q) 0 ≡ cond (eqb q p) b (get_or l (max_places + q) 0)
  at_second =
      get_or-set_other second (2 * max_places + p) (max_places + q) c 0 (λ e. omega (arith, e))
      ∙ get_d_set first (max_places + p) (max_places + q) b 0 (eqb q p) (omega (arith, first_long)) (shifted max_places)
      ∙ ap (λ x. cond (eqb q p) b x) (get_or-set_other l p (max_places + q) a 0 (λ e. omega (arith, e)))

  pub at_third : get_or third (2 * max_places + q) 0 ≡ cond (eqb q p) c (get_or l (2 * max_places + q) 0)
  at_third =
      get_d_set second (2 * max_places + p) (2 * max_places + q) c 0 (eqb q p) (omega (arith, second_long))
      (shifted (2 * max_places))
      ∙ ap (λ x. cond (eqb q p) c x)
      (get_or-set_other first (max_places + p) (2 * max_places + q) b 0 (λ e. omega (arith, e))
      ∙ get_or-set_other l p (2 * max_places + q) a 0 (λ e. omega (arith, e)))

-- lines that a test chooses
chosen :
    (t : Bool) (x y : Lines)
    → ◌≡◌ {A = Lines}
    (record {
      safe = cond t x.safe y.safe;
      saver = cond t x.saver y.saver;
      risk = cond t x.risk y.risk;
      risker = cond t x.risker y.risker;
      lost = cond t x.lost y.lost;
      loser = cond t x.loser y.loser;
    })
    (cond t x y)
chosen true x y = refl
chosen false x y = refl

module _ (x : Lines) (p : ℕ) (hp : p < max_places) (l : Ledger) (ruled : Ruled l) where
  pub lines_with : (q : ℕ) → q < max_places → lines_in (with_lines p x l) q ≡ cond (eqb q p) x (lines_in l q)
  lines_with q hq =
      (λ j.
      record {
        safe = at_first p q hp hq l.written ruled.written x.safe x.risk x.lost j;
        saver = at_first p q hp hq l.writers ruled.writers x.saver x.risker x.loser j;
        risk = at_second p q hp hq l.written ruled.written x.safe x.risk x.lost j;
        risker = at_second p q hp hq l.writers ruled.writers x.saver x.risker x.loser j;
        lost = at_third p q hp hq l.written ruled.written x.safe x.risk x.lost j;
        loser = at_third p q hp hq l.writers ruled.writers x.saver x.risker x.loser j;
      })
      ∙ chosen (eqb q p) x (lines_in l q)

  pub ruled_with : Ruled (with_lines p x l)
  ruled_with =
      record {
        written = third_long p p hp hp l.written ruled.written x.safe x.risk x.lost;
        writers = third_long p p hp hp l.writers ruled.writers x.saver x.risker x.loser;
        copied = ruled.copied;
        since = ruled.since;
      }

-- ---- a sweep from place p on: after k turns T k is left, and each turn changes the lines of its place by h

module _
    (h : Lines → Lines)
    (p : ℕ)
    (l : Ledger)
    (ruled : Ruled l)
    (T : ℕ → Ledger)
    (begins : T zero ≡ l)
    (goes : (k : ℕ) → T (suc k) ≡ with_lines (p + k) (h (lines_in (T k) (p + k))) (T k)) where
  pub swept_ruled : (k : ℕ) → p + k ≤ max_places → Ruled (T k)
  swept_ruled zero most = subst Ruled (sym begins) ruled
  swept_ruled (suc k) most =
      subst Ruled (sym (goes k))
      (ruled_with (h (lines_in (T k) (p + k))) (p + k) (omega (arith, most)) (T k) (swept_ruled k (omega (arith, most))))

  pub swept_rest : (k : ℕ) → Rest l (T k)
  swept_rest zero = subst (Rest l) (sym begins) (record { copied = refl; since = refl })
  swept_rest (suc k) =
      let h = swept_rest k in
      subst (Rest l) (sym (goes k)) (record { copied = h.copied; since = h.since })

  module _ (q : ℕ) (hq : q < max_places) where
    turn :
        (k : ℕ)
        → p + suc k ≤ max_places
        → lines_in (T (suc k)) q ≡ cond (eqb q (p + k)) (h (lines_in (T k) (p + k))) (lines_in (T k) q)
    turn k most =
        ap (λ m. lines_in m q) (goes k)
        ∙ lines_with (h (lines_in (T k) (p + k))) (p + k) (omega (arith, most)) (T k)
        (swept_ruled k (omega (arith, most)))
        q hq

    -- a place that no turn comes to
    pub swept-past :
        (k : ℕ) → p + k ≤ max_places → ((j : ℕ) → j < k → eqb q (p + j) ≡ false) → lines_in (T k) q ≡ lines_in l q
    swept-past zero most past = ap (λ m. lines_in m q) begins
    swept-past (suc k) most past =
        turn k most
        ∙ ap (λ t. cond t (h (lines_in (T k) (p + k))) (lines_in (T k) q)) (past k (omega arith))
        ∙ swept-past k (omega (arith, most)) (λ j below. past j (omega (arith, below)))

    -- the place of turn j
    pub swept_at : (k j : ℕ) → p + k ≤ max_places → j < k → q ≡ p + j → lines_in (T k) q ≡ h (lines_in l q)
    swept_at zero j most below is = absurd (omega (arith, below))
    swept_at (suc k) j most below is =
        split (eqb q (p + k))
        (λ e.
        let same : q ≡ p + k = eqb-true q (p + k) e in
        turn k most
        ∙ ap (λ t. cond t (h (lines_in (T k) (p + k))) (lines_in (T k) q)) e
        ∙ ap (λ r. h (lines_in (T k) r)) (sym same)
        ∙ ap h
        (swept-past k (omega (arith, most)) (λ j below. ne_eqb q (p + j) (λ at. omega (arith, same, at, below)))))
        (λ e.
        let other : q ≡ p + k → ⊥ = eqb-false q (p + k) e in
        turn k most
        ∙ ap (λ t. cond t (h (lines_in (T k) (p + k))) (lines_in (T k) q)) e
        ∙ swept_at k j (omega (arith, most)) (before other) is)
      where
        before : (q ≡ p + k → ⊥) → j < k
        before other = omega (arith, below, other, is)

-- what a client had at risk comes to the server from place p on, or is lost from place 0 on
module _ (i p : ℕ) (l : Ledger) (ruled : Ruled l) where
  came_goes :
      (k : ℕ)
      → came_from i p (suc k) l
      ≡ with_lines (p + k) (came_lines i (lines_in (came_from i p k l) (p + k))) (came_from i p k l)
  unfolding came_from
  came_goes k = refl

  came_begins : came_from i p zero l ≡ l
  unfolding came_from
  came_begins = refl

  pub came_ruled : (k : ℕ) → p + k ≤ max_places → Ruled (came_from i p k l)
  came_ruled = swept_ruled (came_lines i) p l ruled (λ k. came_from i p k l) came_begins came_goes

  pub came_rest : (k : ℕ) → Rest l (came_from i p k l)
  came_rest = swept_rest (came_lines i) p l ruled (λ k. came_from i p k l) came_begins came_goes

  pub came_past :
      (q : ℕ)
      → q < max_places
      → (k : ℕ)
      → p + k ≤ max_places
      → ((j : ℕ) → j < k → eqb q (p + j) ≡ false)
      → lines_in (came_from i p k l) q ≡ lines_in l q
  came_past = swept-past (came_lines i) p l ruled (λ k. came_from i p k l) came_begins came_goes

  pub came_at_lem :
      (q : ℕ)
      → q < max_places
      → (k j : ℕ)
      → p + k ≤ max_places
      → j < k
      → q ≡ p + j
      → lines_in (came_from i p k l) q ≡ came_lines i (lines_in l q)
  came_at_lem = swept_at (came_lines i) p l ruled (λ k. came_from i p k l) came_begins came_goes

module _ (i : ℕ) (l : Ledger) (ruled : Ruled l) where
  lost_goes :
      (k : ℕ)
      → lost_below i (suc k) l
      ≡ with_lines (0 + k) (lost_lines i (lines_in (lost_below i k l) (0 + k))) (lost_below i k l)
  unfolding lost_below
  lost_goes k =
      let zero-plus : k ≡ 0 + k = omega arith in
      ap (λ r. with_lines r (lost_lines i (lines_in (lost_below i k l) r)) (lost_below i k l)) zero-plus

  lost_begins : lost_below i zero l ≡ l
  unfolding lost_below
  lost_begins = refl

  pub lost_ruled : Ruled (lost_below i max_places l)
  lost_ruled = swept_ruled (lost_lines i) 0 l ruled (λ k. lost_below i k l) lost_begins lost_goes max_places (omega arith)

  pub lost_rest : Rest l (lost_below i max_places l)
  lost_rest = swept_rest (lost_lines i) 0 l ruled (λ k. lost_below i k l) lost_begins lost_goes max_places

  pub lost_at_lem : (q : ℕ) → q < max_places → lines_in (lost_below i max_places l) q ≡ lost_lines i (lines_in l q)
  lost_at_lem q hq =
      swept_at (lost_lines i) 0 l ruled (λ k. lost_below i k l) lost_begins lost_goes q hq max_places q (omega arith) hq
      (omega arith)

-- What the clients have of a file never clashes, and so neither does a report with what the table has heard. It leads to
-- the promise never_clashes. Assumes nothing.
use Prim.Native.Nat.{ℕ, ◌<◌}
use mathlib.Core.Path.{◌≡◌, refl, sym, ◌∙◌, subst}
use mathlib.Core.Bool.{Bool, true, false, not, ◌&&◌, ◌||◌, and-false}
use mathlib.Core.Logic.{◌⊎◌, ⊎_elim}
use native.Mathlib.Omega.{arith}
use lib.Dec.{eqb}
use borrow.Author.Tests.{eq-eqb, ne_eqb, le-ltb, not-true}
use Rattle.records.specs.declared.version.Version.{Version}
use Rattle.decision.proofs.Finding.{first_none}
use Rattle.protocol.specs.declared.client.ClientFile.{ClientFile}
use Rattle.protocol.specs.declared.entry.Entry.{Entry}
use Rattle.protocol.specs.Client.{no_client}
use Rattle.protocol.specs.Book.{History}
use Rattle.protocol.specs.Table.{Row}
use Rattle.protocol.specs.Clash.{has_open, may_cache, has_writers, caches_unopened, misplaces_mark, marks_beside}
use Rattle.protocol.specs.Clash.{writes_beside, breaks, clash, says_anything, accepted_of, clashes_with, clashes_on}
use Rattle.protocol.proofs.View.{View}
use Rattle.protocol.proofs.Invariant.{Clients, LastWriter, Agrees, Recovering}
use Rattle.protocol.proofs.Invariant.Flags.{conflict, split, is_false, and_left, and_right, or_cases, other_sym}

-- what a client may not break, beside another
record Keeps (c d : ClientFile) : Type 0 where
  opened : may_cache c ≡ true → has_open c ≡ true
  unwritten : c.marked ≡ true → has_writers c ≡ true → ⊥
  cached : c.marked ≡ true → has_open c ≡ true → may_cache c ≡ true
  alone : c.marked ≡ true → (has_open d ≡ true) ⊎ (d.marked ≡ true) → ⊥
  barred : has_writers c ≡ true → may_cache d ≡ true → ⊥

module _ (c d : ClientFile) (h : Keeps c d) where
  opens : caches_unopened c ≡ true → ⊥
  opens e =
      conflict (h.opened (and_left (may_cache c) (not (has_open c)) e))
      (not-true (has_open c) (and_right (may_cache c) (not (has_open c)) e))

  marks : misplaces_mark c ≡ true → ⊥
  marks e =
      let rest : Bool = has_writers c || (has_open c && not (may_cache c)) in
      let marked = and_left c.marked rest e in
      ⊎_elim
      (h.unwritten marked)
      (λ (x : (has_open c && not (may_cache c)) ≡ true).
      conflict (h.cached marked (and_left (has_open c) (not (may_cache c)) x))
      (not-true (may_cache c) (and_right (has_open c) (not (may_cache c)) x)))
      (or_cases (has_writers c) (has_open c && not (may_cache c)) (and_right c.marked rest e))

  excludes : marks_beside c d ≡ true → ⊥
  excludes e =
      h.alone (and_left c.marked (has_open d || d.marked) e)
      (or_cases (has_open d) d.marked (and_right c.marked (has_open d || d.marked) e))

  bars : writes_beside c d ≡ true → ⊥
  bars e = h.barred (and_left (has_writers c) (may_cache d) e) (and_right (has_writers c) (may_cache d) e)

  unbroken : breaks c d ≡ false
  unbroken =
      rw (
        is_false (caches_unopened c) opens,
        is_false (misplaces_mark c) marks,
        is_false (marks_beside c d) excludes,
        is_false (writes_beside c d) bars,
      )

module _ {n : ℕ} {version : Version} {client : ℕ → ClientFile} (h : Clients n version client) where
  keeps : (s t : ℕ) → eqb t s ≡ false → Keeps (client s) (client t)
  keeps s t away =
      record {
        opened = (h.own s).caching_is_open;
        unwritten = (h.own s).marked_excludes;
        cached = (h.own s).marked_open_caches;
        alone = (h.apart s t away).marked_excludes;
        barred = (h.apart s t away).writer_bars_caching;
      }

  keeps_alone : (s : ℕ) → Keeps (client s) no_client
  keeps_alone s =
      record {
        opened = (h.own s).caching_is_open;
        unwritten = (h.own s).marked_excludes;
        cached = (h.own s).marked_open_caches;
        alone = λ _. ⊎_elim (λ (e : has_open no_client ≡ true). conflict e refl) (λ (e : no_client.marked ≡ true). conflict e refl);
        barred = λ _ e. conflict e refl;
      }

  nothing_kept : (s : ℕ) → Keeps no_client (client s)
  nothing_kept s =
      record {
        opened = λ e. conflict e refl;
        unwritten = λ e. conflict e refl;
        cached = λ e. conflict e refl;
        alone = λ e. conflict e refl;
        barred = λ e. conflict e refl;
      }

  -- two clients never clash, and none does alone
  pub never_two : (s t : ℕ) → eqb t s ≡ false → clash (client s) (client t) ≡ false
  never_two s t away =
      rw (
        unbroken (client s) (client t) (keeps s t away),
        unbroken (client t) (client s) (keeps t s (other_sym s t away)),
      )

  pub never_alone : (s : ℕ) → clash (client s) no_client ≡ false
  never_alone s =
      rw (unbroken (client s) no_client (keeps_alone s), unbroken no_client (client s) (nothing_kept s))

-- the mark that the table has of a client that it has heard is the client's
mark_heard :
    {n last : ℕ} {client : ℕ → ClientFile} {heard : ℕ → Bool} (j : ℕ)
    → LastWriter n last client heard
    → j < n
    → heard j ≡ true
    → eqb last j ≡ (client j).marked
mark_heard {n} {last} {client} j h below told =
    split (client j).marked
    (λ m. eq-eqb last j (h.named j told m) ∙ sym m)
    (λ u.
    ne_eqb last j
    (λ e. conflict (subst (λ i. (client i).marked ≡ true) e (h.holder (subst (λ i. i < n) (sym e) below))) u)
    ∙ sym u)

-- what it has accepted of the client clashes just where the client's side does
accepted_same :
    {n : ℕ} {client : ℕ → ClientFile} {heard : ℕ → Bool} (e : Entry) (own : ClientFile) (j : ℕ)
    → Agrees n e.records e.last client heard
    → j < n
    → heard j ≡ true
    → clash own (accepted_of e j) ≡ clash own (client j)
accepted_same e own j h below told = rw (h.known j told, mark_heard j h.last_writer below told)

pub never_clashes_lem :
    (n : ℕ) (v : View) (k : History) (i : ℕ) (reported accepted : ℕ → Bool) (row : Row)
    → Recovering n v k reported row
    → reported i ≡ false
    → ((j : ℕ) → j < n → accepted j ≡ true → reported j ≡ true)
    → clashes_on n accepted v.entry (v.client i) ≡ false
never_clashes_lem n v k i reported accepted row h unheard heard =
    let own : ClientFile = v.client i in
    let c = h.sound.clients in
    let none : clashes_with n accepted v.entry own ≡ n =
    first_none n (λ j. accepted j && clash own (accepted_of v.entry j))
    (λ j below.
    split (accepted j)
    (λ a.
    let told : reported j ≡ true = heard j below a in
    let away : eqb j i ≡ false = ne_eqb j i (λ e. conflict told (subst (λ s. reported s ≡ false) (sym e) unheard)) in
    rw (a, accepted_same v.entry own j h.table below told, never_two c i j away))
    (λ a. rw a)) in
    rw (never_alone c i, none, le-ltb n n (omega arith)) (and-false (says_anything own))

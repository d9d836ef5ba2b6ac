-- A client of which a view shows nothing, as it does of one under embargo: where the server forgets it, or counts its call
-- as answered, only the entry changes. Assumes nothing.
use Prim.Native.Nat.{ℕ}
use mathlib.Core.Path.{◌≡◌, refl, sym, ap, ◌∙◌}
use mathlib.Core.Bool.{Bool, true, false, cond, not, ◌&&◌}
use lib.Dec.{eqb}
use borrow.Author.Tests.{eqb-true}
use Rattle.decision.specs.Callback.{writes_back, invalidates, asks_nothing}
use Rattle.sizes.specs.declared.sizes.Sizes.{Sizes}
use Rattle.protocol.specs.declared.client.ClientFile.{ClientFile}
use Rattle.protocol.specs.declared.entry.Entry.{Entry}
use Rattle.protocol.specs.Entry.{call_to, calls_out, answered_entry, forgotten_entry}
use Rattle.protocol.specs.Client.{no_client, answered_client}
use Rattle.protocol.proofs.View.{View, at, with_entry, answered_view, waiter_granted_view, forgotten_view}
use Rattle.protocol.proofs.View.{answer_view, restarted_view}
use Rattle.service.specs.declared.service.Service.{Service}
use Rattle.service.specs.Contents.{client_at, copy_at, held_at, dirty_at}
use Rattle.service.proofs.Tests.{split, and_false}
use Rattle.service.proofs.Views.{is_in, outside, view_of, same_view}

pub record Blank (v : View) (i : ℕ) : Type 0 where
  pub client : v.client i ≡ no_client
  pub copy : v.copy i ≡ 0
  pub held : v.held i ≡ false
  pub dirty : v.dirty i ≡ false

pub blank : (z : Sizes) (s : Service) (f b i : ℕ) → is_in z s i ≡ false → Blank (view_of z s f b) i
blank z s f b i out =
    record {
      client = outside (is_in z s) no_client (λ j. client_at s j f) i out;
      copy = outside (is_in z s) 0 (λ j. copy_at s j f b) i out;
      held = outside (is_in z s) false (λ j. held_at s j f b) i out;
      dirty = outside (is_in z s) false (λ j. dirty_at s j f b) i out;
    }

-- what is stored at i is what is there
at_is {ℓ} : {A : Type ℓ} (h : ℕ → A) (i : ℕ) (a : A) → h i ≡ a → (j : ℕ) → at i a h j ≡ h j
at_is h i a is j = split (eqb j i) (λ e. rw (e, eqb-true j i e) (sym is)) (λ e. rw e)

answered_none : (kind : ℕ) → answered_client kind no_client ≡ no_client
answered_none kind = by_flags (invalidates kind) (writes_back kind)
  where
    by_flags :
        (drops sends : Bool)
        → ◌≡◌ {A = ClientFile}
        (record {
          opens = cond drops no_client.opens no_client.opens;
          marked = not sends && false;
          label = cond drops no_client.label no_client.label;
        })
        no_client
    by_flags true true = refl
    by_flags true false = refl
    by_flags false true = refl
    by_flags false false = refl

module _ (n : ℕ) (v : View) (i : ℕ) (h : Blank v i) where
  blank_forgotten : forgotten_view n v i ≡ with_entry v (forgotten_entry n v.entry i)
  blank_forgotten =
      same_view refl refl (at_is v.client i no_client h.client) (at_is v.copy i 0 h.copy)
      (at_is v.held i false h.held) (at_is v.dirty i false h.dirty)

  blank_answered : (e : Entry) (kind : ℕ) → answered_view (with_entry v e) i kind ≡ with_entry v (answered_entry e i kind)
  blank_answered e kind =
      same_view refl
      (ap (λ d. cond (writes_back kind && d) (v.copy i) v.block) h.dirty
      ∙ ap (λ t. cond t (v.copy i) v.block) (and_false (writes_back kind)))
      (at_is v.client i _ (h.client ∙ sym (answered_none kind) ∙ ap (answered_client kind) (sym h.client)))
      (at_is v.copy i _ (by-drop (invalidates kind) (v.copy i) 0 h.copy))
      (at_is v.held i _ (by-drop (invalidates kind) (v.held i) false h.held))
      (at_is v.dirty i false h.dirty)
    where
      by-drop : {A : Type 0} (t : Bool) (x a : A) → x ≡ a → x ≡ cond t a x
      by-drop true x a is = is
      by-drop false x a is = refl

  pub blank_restarted :
      restarted_view n v i
      ≡ (let e = forgotten_entry n v.entry i in
      let kind = call_to n e i in
      let w = with_entry v (answered_entry e i kind) in
      cond (asks_nothing kind) (with_entry v e) (cond (eqb (calls_out n w.entry) 0) (waiter_granted_view n w) w))
  blank_restarted =
      let e = forgotten_entry n v.entry i in
      let kind = call_to n e i in
      ap (λ u. answer_view n u i) blank_forgotten
      ∙ ap (λ w. cond (asks_nothing kind) (with_entry v e) (cond (eqb (calls_out n w.entry) 0) (waiter_granted_view n w) w))
      (blank_answered e kind)

-- A client under embargo is told: it drops all that it has, which no view shows, and is in again with nothing. So no view
-- changes. Assumes nothing.
use Prim.Native.Nat.{ℕ, zero, suc, ◌<◌, ◌≤◌}
use mathlib.Core.Path.{◌≡◌, refl, sym, ap, ◌∙◌, subst⁻¹, fun_ext}
use mathlib.Core.Bool.{Bool, true, false, cond, not, ◌&&◌, ◌||◌, or-true}
use mathlib.Core.List.{List}
use native.Mathlib.Omega.{arith}
use lib.Dec.{eqb, ltb}
use lib.ListN.{length, get_or, set, length-set}
use lib.Seq.{get_or-set_same, get_or-set_other}
use borrow.Author.Tests.{eqb-true, eqb-false}
use Rattle.sizes.specs.declared.sizes.Sizes.{Sizes}
use Rattle.sizes.specs.Sizes.{max_clients, Permitted}
use Rattle.sizes.proofs.InForce.{client_fits, file_fits}
use Rattle.protocol.specs.Client.{no_client}
use Rattle.file.specs.FileStep.{after_dropping}
use Rattle.service.specs.declared.service.Service.{Service}
use Rattle.service.specs.Contents.{table_in, embargoed_at, client_at, copy_at, held_at, dirty_at}
use Rattle.service.specs.Embargo.{dropped_on, dropped_below, told}
use Rattle.service.proofs.Tests.{split, eqb_same, when}
use Rattle.service.proofs.Contents.{get_d_kept}
use Rattle.service.proofs.Views.{Sized, is_in, within, within_none, view_of, heard_of, same_view}
use Rattle.service.proofs.OneFile.{side_put}
use Rattle.service.proofs.FileSteps.{drop_step}

-- ---- what is left of the client in a file

-- nothing, at each block
pub record Gone (z : Sizes) (s : Service) (i f : ℕ) : Type 0 where
  pub side : client_at s i f ≡ no_client
  pub copy : (b : ℕ) → b < z.blocks → copy_at s i f b ≡ 0
  pub held : (b : ℕ) → b < z.blocks → held_at s i f b ≡ false
  pub dirty : (b : ℕ) → b < z.blocks → dirty_at s i f b ≡ false

module _ {z : Sizes} (most : Permitted z) {i : ℕ} (hi : i < z.clients) where
  hi' : i < max_clients
  hi' = client_fits most hi

  -- what client i has of file g, once it has dropped what it had of file f; t says whether they are one file
  module _ {s : Service} {f : ℕ} (n : Sized z s) (hf : f < z.files) (g : ℕ) (t : Bool) (q : eqb g f ≡ t) where
    side-dropped : client_at (dropped_on z i s f) i g ≡ cond (t && eqb i i) no_client (client_at s i g)
    unfolding after_dropping
    side-dropped =
        side_put s.clients f g i no_client (rw n.files (file_fits most hf)) i t
        (rw (n.sides f (file_fits most hf)) hi') q

    copy-dropped : (b : ℕ) → b < z.blocks → copy_at (dropped_on z i s f) i g b ≡ cond (t && eqb i i) 0 (copy_at s i g b)
    unfolding after_dropping
    copy-dropped b hb =
        get_d_kept s.copies z.blocks false 0 g t n.copies most.blocks hi' hi' (file_fits most hf) hb q

    held-dropped :
        (b : ℕ) → b < z.blocks → held_at (dropped_on z i s f) i g b ≡ cond (t && eqb i i) false (held_at s i g b)
    unfolding after_dropping
    held-dropped b hb =
        get_d_kept s.held z.blocks false false g t n.held most.blocks hi' hi' (file_fits most hf) hb q

    dirty-dropped :
        (b : ℕ) → b < z.blocks → dirty_at (dropped_on z i s f) i g b ≡ cond (t && eqb i i) false (dirty_at s i g b)
    unfolding after_dropping
    dirty-dropped b hb =
        get_d_kept s.dirty z.blocks false false g t n.dirty most.blocks hi' hi' (file_fits most hf) hb q

  module _ {s : Service} {f : ℕ} (n : Sized z s) (hf : f < z.files) where
    gone-here : Gone z (dropped_on z i s f) i f
    gone-here =
        let same = eqb_same f in
        record {
          side = side-dropped n hf f true same ∙ when no_client _ (eqb_same i);
          copy = λ b hb. copy-dropped n hf f true same b hb ∙ when 0 _ (eqb_same i);
          held = λ b hb. held-dropped n hf f true same b hb ∙ when false _ (eqb_same i);
          dirty = λ b hb. dirty-dropped n hf f true same b hb ∙ when false _ (eqb_same i);
        }

    gone-still : (g : ℕ) → eqb g f ≡ false → Gone z s i g → Gone z (dropped_on z i s f) i g
    gone-still g away h =
        record {
          side = side-dropped n hf g false away ∙ h.side;
          copy = λ b hb. copy-dropped n hf g false away b hb ∙ h.copy b hb;
          held = λ b hb. held-dropped n hf g false away b hb ∙ h.held b hb;
          dirty = λ b hb. dirty-dropped n hf g false away b hb ∙ h.dirty b hb;
        }

  -- ---- all files

  record Dropping (k : ℕ) (s s' : Service) : Type 0 where
    sized : Sized z s'
    recovering : (table_in s').recovering ≡ (table_in s).recovering
    reports : (table_in s').reported ≡ (table_in s).reported
    embargoes : (table_in s').embargoed ≡ (table_in s).embargoed
    views : (f b : ℕ) → b < z.blocks → view_of z s' f b ≡ view_of z s f b
    gone : (f : ℕ) → f < k → Gone z s' i f

  dropping :
      (k : ℕ) (s : Service)
      → k ≤ z.files
      → Sized z s
      → embargoed_at s i ≡ true
      → Dropping k s (dropped_below z i k s)
  unfolding dropped_below
  dropping zero s fits n out =
      record {
        sized = n;
        recovering = refl;
        reports = refl;
        embargoes = refl;
        views = λ f b _. refl;
        gone = λ f below. absurd (omega arith);
      }
  dropping (suc k) s fits n out =
      let h = dropping k s (omega arith) n out in
      let s' : Service = dropped_below z i k s in
      let aside : embargoed_at s' i ≡ true = ap (λ (l : List Bool). get_or l i false) h.embargoes ∙ out in
      let p = drop_step most {s = s'} i {f = k} h.sized hi (omega arith) aside in
      record {
        sized = p.sized;
        recovering = p.recovering ∙ h.recovering;
        reports = p.reports ∙ h.reports;
        embargoes = p.embargoes ∙ h.embargoes;
        views = λ f b hb. split (eqb f k)
            (λ e.
            subst⁻¹ (λ f. view_of z (dropped_below z i (suc k) s) f b ≡ view_of z s f b) (eqb-true f k e)
            (p.here b hb ∙ h.views k b hb))
            (λ e. p.elsewhere f b hb e ∙ h.views f b hb);
        gone = λ f below. split (eqb f k)
            (λ e.
            subst⁻¹ (λ f. Gone z (dropped_below z i (suc k) s) i f) (eqb-true f k e)
            (gone-here {s = s'} h.sized (omega arith)))
            (λ e. let away = eqb-false f k e in
            gone-still {s = s'} h.sized (omega arith) f e (h.gone f (omega arith)));
      }

  -- ---- and it is in again

  -- where client i has nothing, it makes no difference whether it shows
  within_lifted {ℓ} :
      {A : Type ℓ} (shows shows' : ℕ → Bool) (none : A) (g : ℕ → A)
      → g i ≡ none
      → ((j : ℕ) → eqb j i ≡ false → shows' j ≡ shows j)
      → (j : ℕ)
      → within shows' none g j ≡ within shows none g j
  within_lifted shows shows' none g nothing same j =
      split (eqb j i)
      (λ e.
      let is : g j ≡ none = ap g (eqb-true j i e) ∙ nothing in
      within_none shows' none j (g j) is ∙ sym (within_none shows none j (g j) is))
      (λ e. ap (λ t. cond t (g j) none) (same j e))

  module _ {s : Service} (n : Sized z s) (out : embargoed_at s i ≡ true) where
    abbrev d : Service
    d = dropped_below z i z.files s

    dropped : Dropping z.files s d
    dropped = dropping z.files s (omega arith) n out

    lifted-other : (j : ℕ) → eqb j i ≡ false → embargoed_at (told z s i) j ≡ embargoed_at d j
    lifted-other j e = get_or-set_other (table_in d).embargoed i j false false (eqb-false j i e)

    pub told-other : (j : ℕ) → eqb j i ≡ false → embargoed_at (told z s i) j ≡ embargoed_at s j
    told-other j e = lifted-other j e ∙ ap (λ (l : List Bool). get_or l j false) dropped.embargoes

    pub told-self : embargoed_at (told z s i) i ≡ false
    told-self =
        get_or-set_same (table_in d).embargoed i false false (rw dropped.sized.embargoes hi')

    shows-other : (j : ℕ) → eqb j i ≡ false → is_in z (told z s i) j ≡ is_in z d j
    shows-other j e = ap (λ t. ltb j z.clients && not t) (lifted-other j e)

    -- all that it changes
    pub record Told (s' : Service) : Type 0 where
      pub sized : Sized z s'
      pub recovering : (table_in s').recovering ≡ (table_in s).recovering
      pub heard : (table_in s).recovering ≡ true → heard_of z s' ≡ heard_of z s
      pub views : (f b : ℕ) → f < z.files → b < z.blocks → view_of z s' f b ≡ view_of z s f b

    pub tells : Told (told z s i)
    tells =
        let n' = dropped.sized in
        record {
          sized =
              record {
                sizes = n'.sizes;
                entries = n'.entries;
                words = n'.words;
                reports = by_flag (table_in d).recovering ∙ n'.reports;
                embargoes = length-set (table_in d).embargoed i false ∙ n'.embargoes;
                files = n'.files;
                sides = n'.sides;
                copies = n'.copies;
                held = n'.held;
                dirty = n'.dirty;
              };
          recovering = dropped.recovering;
          heard = λ recovers. fun_ext (heard-told recovers);
          views = λ f b hf hb. shown f b hf hb ∙ dropped.views f b hb;
        }
      where
        by_flag :
            (t : Bool)
            → length (cond t (set (table_in d).reported i true) (table_in d).reported) ≡ length (table_in d).reported
        by_flag true = length-set (table_in d).reported i true
        by_flag false = refl

        shown : (f b : ℕ) → f < z.files → b < z.blocks → view_of z (told z s i) f b ≡ view_of z d f b
        shown f b hf hb =
            let none = dropped.gone f hf in
            let shows : ℕ → Bool = is_in z d in
            let shows' : ℕ → Bool = is_in z (told z s i) in
            same_view refl refl
            (within_lifted shows shows' no_client (λ j. client_at d j f) none.side shows-other)
            (within_lifted shows shows' 0 (λ j. copy_at d j f b) (none.copy b hb) shows-other)
            (within_lifted shows shows' false (λ j. held_at d j f b) (none.held b hb) shows-other)
            (within_lifted shows shows' false (λ j. dirty_at d j f b) (none.dirty b hb) shows-other)

        reports-told :
            (table_in s).recovering ≡ true → (table_in (told z s i)).reported ≡ set (table_in s).reported i true
        reports-told recovers =
            (λ k. cond ((dropped.recovering ∙ recovers) k) (set (dropped.reports k) i true) (dropped.reports k))

        heard-told : (table_in s).recovering ≡ true → (j : ℕ) → heard_of z (told z s i) j ≡ heard_of z s j
        heard-told recovers j =
            let reported : get_or (table_in (told z s i)).reported j false ≡ get_or (set (table_in s).reported i true) j false =
            ap (λ (l : List Bool). get_or l j false) (reports-told recovers) in
            split (eqb j i)
            (λ e.
            let is : j ≡ i = eqb-true j i e in
            let now : get_or (set (table_in s).reported i true) j false ≡ true =
            subst⁻¹ (λ j. get_or (set (table_in s).reported i true) j false ≡ true) is
            (get_or-set_same (table_in s).reported i true false (rw n.reports hi')) in
            let then : embargoed_at s j ≡ true = subst⁻¹ (λ j. embargoed_at s j ≡ true) is out in
            ap (λ t. ltb j z.clients && (t || embargoed_at (told z s i) j)) (reported ∙ now)
            ∙ ap (λ t. ltb j z.clients && t) (sym (or-true (get_or (table_in s).reported j false)))
            ∙ ap (λ t. ltb j z.clients && (get_or (table_in s).reported j false || t)) (sym then))
            (λ e.
            (λ k.
            ltb j z.clients
            && ((reported ∙ get_or-set_other (table_in s).reported i j true false (eqb-false j i e)) k
            || told-other j e k)))

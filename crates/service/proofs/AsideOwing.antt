-- Who is in and marked has a dirty block of the file, also after a client was put under embargo, after one was told, and
-- after a restart. Assumes nothing.
use Prim.Native.Nat.{ℕ, ◌<◌}
use mathlib.Core.Path.{◌≡◌, sym, ap, ◌∙◌, subst, subst⁻¹}
use mathlib.Core.Bool.{Bool, true, false}
use mathlib.Core.List.{List}
use lib.Dec.{eqb}
use lib.ListN.{get_or}
use lib.Seq.{get_or-set_other}
use borrow.Author.Tests.{eqb-true, eqb-false}
use Rattle.sizes.specs.declared.sizes.Sizes.{Sizes}
use Rattle.sizes.specs.Sizes.{Permitted}
use Rattle.protocol.specs.declared.client.ClientFile.{ClientFile}
use Rattle.protocol.specs.Book.{History}
use Rattle.protocol.specs.Table.{Row}
use Rattle.protocol.proofs.View.{View, BacksAt, Backs, restarted_view}
use Rattle.protocol.proofs.Promises.{Promises}
use Rattle.service.specs.declared.service.Service.{Service}
use Rattle.service.specs.Aside.{Forgotten}
use Rattle.service.specs.Contents.{table_in, embargoed_at}
use Rattle.service.specs.Demand3.{Memory, Recovery, none, since}
use Rattle.service.specs.Embargo.{put_aside, told, restarted}
use Rattle.service.proofs.Tests.{split, conflict}
use Rattle.service.proofs.Views.{Sized, In, is_out, view_of, client_is}
use Rattle.service.proofs.Blank.{blank}
use Rattle.service.proofs.Invariant.{Stands}
use Rattle.service.proofs.Forgetting.{puts-aside}
use Rattle.service.proofs.Telling.{tells, told-other}
use Rattle.service.proofs.WhileAside.{aside_self}
use Rattle.service.proofs.Owing.{Owed, owed_at}

module _ {z : Sizes} (most : Permitted z) (i : ℕ) (hi : i < z.clients) where
  -- who is in and is not client i was in before the embargo
  put_in : {s : Service} → Sized z s → Forgotten s → (j : ℕ) → In z (put_aside z s i) j → In z s j
  put_in {s} n h j here =
      let other : eqb j i ≡ false =
      split (eqb j i)
      (λ e. conflict (aside_self most i hi n h) (subst (λ k. embargoed_at (put_aside z s i) k ≡ false) (eqb-true j i e) here.unbarred))
      (λ e. e) in
      record {
        below = here.below;
        unbarred =
            sym (get_or-set_other (table_in s).embargoed i j true false (eqb-false j i other))
            ∙ ap (λ (l : List Bool). get_or l j false) (sym (puts-aside most hi n h).embargoes)
            ∙ here.unbarred;
      }

  put_owed :
      {s : Service} (n : Sized z s) (h : Forgotten s)
      → ((f b : ℕ) → f < z.files → b < z.blocks → Backs (view_of z s f b) (restarted_view z.clients (view_of z s f b) i))
      → Owed z s
      → Owed z (put_aside z s i)
  put_owed {s} n h backs owed j g hj hg =
      let before = put_in n h j hj in
      owed_at most s (put_aside z s i) g hj before
      (λ b hb. subst⁻¹ (λ v. BacksAt j (view_of z s g b) v) ((puts-aside most hi n h).views g b hg hb) (backs g b hg hb j))
      (owed j g before hg)

  pub told_owed : {s : Service} → Sized z s → embargoed_at s i ≡ true → Owed z s → Owed z (told z s i)
  told_owed {s} n out owed j g hj hg =
      let p = tells most hi n out in
      let same : (b : ℕ) → b < z.blocks → view_of z (told z s i) g b ≡ view_of z s g b = λ b hb. p.views g b hg hb in
      split (eqb j i)
      (λ e m.
      let is : j ≡ i = eqb-true j i e in
      let shown : ((view_of z s g 0).client j).marked ≡ true =
      ap (λ (v : View). (v.client j).marked) (sym (same 0 most.some_block))
      ∙ ap (λ (c : ClientFile). c.marked) (sym (client_is z (told z s i) g 0 hj))
      ∙ m in
      conflict (subst (λ k. ((view_of z s g 0).client k).marked ≡ true) is shown)
      (ap (λ (c : ClientFile). c.marked) (blank z s g 0 i (is_out z s i out)).client))
      (λ e.
      let before : In z s j = record { below = hj.below; unbarred = sym (told-other most hi n out j e) ∙ hj.unbarred } in
      owed_at most s (told z s i) g hj before
      (λ b hb. subst⁻¹ (λ v. BacksAt j (view_of z s g b) v) (same b hb) (λ m. (m, λ d. d)))
      (owed j g before hg))

module _
    {z : Sizes}
    (most : Permitted z)
    {Running : View → History → Type 0}
    {Recovering : View → History → (ℕ → Bool) → Row → Type 0}
    (promises : Promises z.clients Running Recovering)
    (i : ℕ)
    (hi : i < z.clients)
    (s : Service)
    (m : Memory)
  where
    pub aside-owed :
        (r : Recovery) → Sized z s → Forgotten s → Stands z Running Recovering s m r → Owed z s → Owed z (put_aside z s i)
    aside-owed none n u h =
        put_owed most i hi n u
        (λ f b hf hb. promises.restarts_back (view_of z s f b) (m f b) i (h.views f b hf hb) hi)
    aside-owed (since t) n u h =
        put_owed most i hi n u
        (λ f b hf hb. promises.restarts_cut_off_back (view_of z s f b) (m f b) i _ _ (h.views f b hf hb))

    pub restart-owed :
        (r : Recovery) → Sized z s → Forgotten s → Stands z Running Recovering s m r → Owed z s → Owed z (restarted z s i)
    restart-owed r n u h owed =
        told_owed most i hi (puts-aside most hi n u).sized (aside_self most i hi n u) (aside-owed r n u h owed)

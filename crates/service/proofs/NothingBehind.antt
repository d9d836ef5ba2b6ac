-- Nothing is left behind: after every list of steps from the fresh service of any sizes, a client that is last writer, or
-- marked, has a dirty block of the file and no writers. Assumes nothing.
use Prim.Native.Nat.{ℕ, ◌≤◌, ◌<◌}
use mathlib.Core.Path.{◌≡◌, refl, ap, ◌∙◌, subst, subst⁻¹}
use mathlib.Core.Bool.{Bool, true, false}
use mathlib.Core.List.{List, [], ◌∷◌}
use mathlib.Core.Logic.{◌⊎◌, inl, inr, ⊎_elim}
use native.Mathlib.Omega.{arith}
use lib.Dec.{ltb}
use borrow.Author.Tests.{eq-eqb, leb-false, ltb-false, not-false}
use Rattle.sizes.specs.declared.sizes.Sizes.{Sizes}
use Rattle.sizes.specs.Sizes.{nobody, in_force, Permitted}
use Rattle.sizes.proofs.InForce.{in_force_permitted}
use Rattle.protocol.specs.declared.client.ClientFile.{ClientFile}
use Rattle.protocol.specs.declared.step.Step.{Step}
use Rattle.protocol.specs.declared.step.Step.TheVariants.{Open, Close, Read, Write, Flush, Answer, Crash, Report, End}
use Rattle.protocol.specs.declared.step.Step.TheVariants.{Restart, Embargo, Lift}
use Rattle.protocol.specs.Client.{no_client}
use Rattle.protocol.specs.Book.{History}
use Rattle.protocol.specs.Table.{Row}
use Rattle.protocol.proofs.Invariant.{Running, Recovering}
use Rattle.protocol.proofs.Kept.{promises}
use Rattle.protocol.proofs.View.{View}
use Rattle.protocol.proofs.Promises.{Promises}
use Rattle.blocks.specs.Stores.{any_dirty}
use Rattle.service.specs.declared.service.Service.{Service}
use Rattle.service.specs.Contents.{entry_at, embargoed_at, client_at, stores_of}
use Rattle.service.specs.Embargo.{put_aside, grants_aside}
use Rattle.service.specs.Fresh.{fresh}
use Rattle.service.specs.Demand3.{refused, after, Memory, blank, remembered, Recovery, none, since, recovery_after}
use Rattle.service.specs.NothingBehind.{Owes, NothingBehind, after_steps, NothingLeft}
use Rattle.service.proofs.Tests.{split, conflict}
use Rattle.service.proofs.Views.{In, view_of, client_is}
use Rattle.service.proofs.BlockSteps.{read_step, write_step}
use Rattle.service.proofs.Accepted.{Passed, tests_of, done_of, when_accepted, done_but_store, refused_changes_nothing, answering_service}
use Rattle.service.proofs.Consistent.{sized, after_kept, fresh_sound, fresh_view_lem}
use Rattle.service.proofs.Invariant.{Stands, Sound}
use Rattle.service.proofs.Forgotten.{entries_of}
use Rattle.service.proofs.WhileAside.{aside_read, aside_write}
use Rattle.service.proofs.AsideOwing.{aside-owed, told_owed, restart-owed}
use Rattle.service.proofs.Owing.{Owed, block_owed, write_backs, close_owed, flush-owed, open_owed, answer_owed}

module _
    {z : Sizes}
    (most : Permitted z)
    (Running : View → History → Type 0)
    (Recovering : View → History → (ℕ → Bool) → Row → Type 0)
    (promises : Promises z.clients Running Recovering) where
  -- what the invariant says of a client that is last writer, or marked
  owing :
      (s : Service) (m : Memory) (r : Recovery) (i f : ℕ)
      → Stands z Running Recovering s m r
      → In z s i
      → f < z.files
      → ((entry_at s f).last ≡ i) ⊎ ((client_at s i f).marked ≡ true)
      → ((client_at s i f).marked ≡ true) × (ltb 0 (client_at s i f).opens.writers ≡ true → ⊥)
  owing s m r i f h here hf x =
      let v : View = view_of z s f 0 in
      let is : client_at s i f ≡ v.client i = client_is z s f 0 here in
      let x' : (v.entry.last ≡ i) ⊎ ((v.client i).marked ≡ true) =
      subst (λ (c : ClientFile). (v.entry.last ≡ i) ⊎ (c.marked ≡ true)) is x in
      subst⁻¹ (λ (c : ClientFile). (c.marked ≡ true) × (ltb 0 c.opens.writers ≡ true → ⊥)) is (shown r h x')
    where
      shown : (r : Recovery)
          → Stands z Running Recovering s m r
          → ((view_of z s f 0).entry.last ≡ i) ⊎ (((view_of z s f 0).client i).marked ≡ true)
          → (((view_of z s f 0).client i).marked ≡ true) × (ltb 0 ((view_of z s f 0).client i).opens.writers ≡ true → ⊥)
      shown none h = promises.owes (view_of z s f 0) (m f 0) i (h.views f 0 hf most.some_block) here.below
      shown (since t) h = promises.owes_still (view_of z s f 0) (m f 0) i _ _ (h.views f 0 hf most.some_block) here.below

  pub nothing_behind_lem :
      (s : Service) (m : Memory) (r : Recovery)
      → Sound z Running Recovering s m r
      → Owed z s
      → NothingBehind s
  nothing_behind_lem s m r h owed =
      subst⁻¹
      (λ (z : Sizes).
      (i f : ℕ)
      → i < z.clients
      → f < z.files
      → ((entry_at s f).last ≡ i) ⊎ ((embargoed_at s i ≡ false) × ((client_at s i f).marked ≡ true))
      → Owes s i f)
      (sized most Running Recovering promises s m r h).sizes
      (λ i f hi hf x.
      let here : In z s i = record { below = hi; unbarred = last-in i f hi hf x } in
      let (marked, idle) = owing s m r i f h.stands here hf (⊎_elim inl (λ y. inr y.1) x) in
      record {
        dirty =
            subst⁻¹ (λ (z : Sizes). any_dirty z.blocks i f (stores_of s) ≡ true)
            (sized most Running Recovering promises s m r h).sizes (owed i f here hf marked);
        no_writers = no-count (client_at s i f).opens.writers idle;
      })
    where
      -- a last writer is not under embargo
      last-in :
          (i f : ℕ)
          → i < z.clients
          → f < z.files
          → ((entry_at s f).last ≡ i) ⊎ ((embargoed_at s i ≡ false) × ((client_at s i f).marked ≡ true))
          → embargoed_at s i ≡ false
      last-in i f hi hf (inr x) = x.0
      last-in i f hi hf (inl last) =
          split (embargoed_at s i)
          (λ out.
          conflict (eq-eqb (entry_at s f).last i last)
          (entries_of (sized most Running Recovering promises s m r h) h.forgotten f hf i hi out).not_last)
          (λ e. e)

      no-count : (n : ℕ) → (ltb 0 n ≡ true → ⊥) → n ≡ 0
      no-count n idle =
          split (ltb 0 n) (λ some. absurd (idle some)) (λ none. let most = ltb-false 0 n none in omega arith)

  -- an accepted step
  accepted_owed :
      (s : Service) (m : Memory) (r : Recovery) (x : Step)
      → Sound z Running Recovering s m r
      → Passed (tests_of z s x)
      → Owed z s
      → Owed z (done_of z s x).service
  accepted_owed s m none (Open mode i f) h p owed = open_owed most promises h.stands h.forgotten owed mode i f p
  accepted_owed s m none (Answer i f) h p owed = answer_owed most promises h.stands h.forgotten owed i f p
  accepted_owed s m r (Close mode i f) h (client, (file, (aside, _))) owed =
      close_owed most promises (sized most Running Recovering promises s m r h)
      (record { below = leb-false z.clients i client; unbarred = aside }) (leb-false z.files f file) owed mode
  accepted_owed s m r (Flush i f b) h (client, (file, (block, (aside, _)))) owed =
      flush-owed most promises (sized most Running Recovering promises s m r h)
      (record { below = leb-false z.clients i client; unbarred = aside }) (leb-false z.files f file) owed b
      (leb-false z.blocks b block)
  accepted_owed s m r (Read i f b) h p owed =
      split (embargoed_at s i)
      (λ out. subst⁻¹ (Owed z) (aside_read z s i f b out p) owed)
      (λ unbarred.
      block_owed most s _
      (read_step most (sized most Running Recovering promises s m r h)
      (record { below = leb-false z.clients i p.0; unbarred = unbarred }) (leb-false z.files f p.1.0)
      (leb-false z.blocks b p.1.1.0))
      (λ j m. (m, λ d. d)) owed)
  accepted_owed s m r (Write i f b v) h p owed =
      let n = sized most Running Recovering promises s m r h in
      split (embargoed_at s i)
      (λ out. block_owed most s _ (aside_write z s i f b out most n v p).2 (λ j m. (m, λ d. d)) owed)
      (λ unbarred.
      block_owed most s _
      (write_step most n
      (record { below = leb-false z.clients i p.0; unbarred = unbarred }) (leb-false z.files f p.1.0)
      (leb-false z.blocks b p.1.1.0) v)
      (write_backs (view_of z s f b) i v) owed)
  accepted_owed s m r Crash h p owed =
      λ i f here. owed i f (record { below = here.below; unbarred = here.unbarred })
  accepted_owed s m r (Report j) h p owed =
      λ i f here. owed i f (record { below = here.below; unbarred = here.unbarred })
  accepted_owed s m r End h p owed =
      λ i f here. owed i f (record { below = here.below; unbarred = here.unbarred })
  accepted_owed s m r (Restart i) h (client, _) owed =
      restart-owed most promises i (leb-false z.clients i client) s m r
      (sized most Running Recovering promises s m r h) h.forgotten h.stands owed
  accepted_owed s m r (Embargo i f) h (client, _) owed =
      subst⁻¹ (Owed z) (answering_service (put_aside z s i) (grants_aside z s i))
      (aside-owed most promises i (leb-false z.clients i client) s m r
      (sized most Running Recovering promises s m r h) h.forgotten h.stands owed)
  accepted_owed s m r (Lift i) h (client, (out, _)) owed =
      told_owed most i (leb-false z.clients i client) (sized most Running Recovering promises s m r h)
      (not-false (embargoed_at s i) out) owed
  accepted_owed s m (since t) (Open mode i f) h (_, (_, (_, (runs, _)))) owed = conflict h.stands.state runs
  accepted_owed s m (since t) (Answer i f) h (_, (_, (_, (runs, _)))) owed = conflict h.stands.state runs

  pub after_owed :
      (s : Service) (m : Memory) (r : Recovery) (x : Step)
      → Sound z Running Recovering s m r
      → Owed z s
      → Owed z (after s x)
  after_owed s m r x h owed =
      split (refused s x)
      (λ e. subst⁻¹ (Owed z) (refused_changes_nothing s x e) owed)
      (λ e.
      let (p, done) = when_accepted s x (sized most Running Recovering promises s m r h).sizes e in
      done_but_store (Owed z)
      (λ t used free h i f here. h i f (record { below = here.below; unbarred = here.unbarred })) z s x done (accepted_owed s m r x h p owed))

  -- every list of steps
  left_behind :
      (s : Service) (m : Memory) (r : Recovery) (steps : List Step)
      → Sound z Running Recovering s m r
      → Owed z s
      → NothingBehind (after_steps s steps)
  left_behind s m r [] h owed = nothing_behind_lem s m r h owed
  left_behind s m r (x ∷ steps) h owed =
      left_behind (after s x) (remembered s m x) (recovery_after s r x (refused s x)) steps
      (after_kept most Running Recovering promises s m r x h) (after_owed s m r x h owed)

-- nobody is marked in the fresh service
pub fresh_owed : (z : Sizes) → Owed (in_force z) (fresh z)
fresh_owed z i f here hf m =
    let is : client_at (fresh z) i f ≡ no_client =
    client_is (in_force z) (fresh z) f 0 here ∙ ap (λ (v : View). v.client i) (fresh_view_lem z f 0 hf) in
    conflict (subst (λ (c : ClientFile). c.marked ≡ true) is m) refl

pub nothing_left : NothingLeft
nothing_left z =
    let n : ℕ = (in_force z).clients in
    let most = in_force_permitted z in
    let fits = most.clients in
    let bound : n ≤ nobody = omega arith in
    let kept = promises n bound in
    record {
      always = λ steps.
          left_behind most (Running n) (Recovering n) kept (fresh z) blank none steps
          (fresh_sound z (Running n) (Recovering n) kept) (fresh_owed z);
    }

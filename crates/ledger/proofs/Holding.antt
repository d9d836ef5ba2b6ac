-- A copy that a client holds after a step it held before, or the step fetched it or wrote it there. Assumes nothing.
use Prim.Native.Nat.{ℕ, zero, suc, ◌+◌, ◌<◌}
use mathlib.Core.Path.{◌≡◌, refl, sym, ◌∙◌, subst}
use mathlib.Core.Bool.{Bool, true, false, cond, not, ◌&&◌}
use mathlib.Core.List.{List, [], ◌∷◌}
use lib.Dec.{eqb}
use lib.ListN.{get_or, set}
use Rattle.sizes.specs.declared.sizes.Sizes.{Sizes}
use Rattle.sizes.specs.Sizes.{Permitted, cell, first_cell}
use Rattle.decision.specs.Lists.{stored}
use Rattle.decision.specs.Callback.{asks_nothing, invalidates}
use Rattle.sizes.proofs.InForce.{client_fits, block_fits}
use Rattle.protocol.specs.declared.step.Step.{Step}
use Rattle.protocol.specs.declared.step.Step.TheVariants.{Open, Close, Read, Write, Flush, Answer, Crash, Report, End}
use Rattle.protocol.specs.declared.step.Step.TheVariants.{Restart, Embargo, Lift}
use Rattle.protocol.specs.declared.reply.Granting.{Granting}
use Rattle.protocol.specs.declared.shared.SharedFile.{SharedFile}
use Rattle.protocol.specs.Client.{kept, keeps_blocks, side_of}
use Rattle.protocol.specs.Entry.{call_to, calls_for, calls_out, grant_of, answered_entry, forgotten_entry}
use Rattle.blocks.specs.declared.stores.Stores.{Stores}
use Rattle.blocks.specs.Stores.{held_in, dropped_unless, answered_stores}
use Rattle.file.specs.FileStep.{FileAfter, answered, after_answer, with_entry, after_forgetting, after_dropping}
use Rattle.service.specs.declared.service.Service.{Service}
use Rattle.service.specs.declared.outcome.Outcome.{Outcome}
use Rattle.service.specs.Contents.{sizes_of, entry_at, file_at, stores_of, client_at, held_at}
use Rattle.service.specs.Embargo.{forgotten_below, marked, put_aside, grants_aside, dropped_below, answering}
use Rattle.service.specs.Demand3.{refused, after}
use Rattle.service.proofs.Tests.{split, conflict, either}
use Rattle.service.proofs.Contents.{cell_same}
use Rattle.service.specs.Space.{spaced}
use Rattle.service.proofs.Accepted.{done_of, when_accepted, refused_changes_nothing}
use Rattle.ledger.specs.Provenance.{copies}
use Rattle.ledger.proofs.Entries.{get_d_elsewhere, names_there}

-- ---- dropping makes nothing held

set_false : (l : List Bool) (p q : ℕ) → get_or (set l p false) q false ≡ true → get_or l q false ≡ true
set_false [] p q e = e
set_false (a ∷ l) zero zero e = conflict e refl
set_false (a ∷ l) zero (suc q) e = e
set_false (a ∷ l) (suc p) zero e = e
set_false (a ∷ l) (suc p) (suc q) e = set_false l p q e

stored_false :
    (n : ℕ) (at : ℕ → ℕ) (l : List Bool) (q : ℕ)
    → get_or (stored n at (λ b. false) l) q false ≡ true
    → get_or l q false ≡ true
unfolding stored
stored_false zero at l q e = e
stored_false (suc n) at l q e = stored_false n at l q (set_false (stored n at (λ b. false) l) (at n) q e)

kept_held :
    (n : ℕ) (keep : Bool) (base : ℕ) (l : List Bool) (q : ℕ)
    → get_or (kept n keep false base l) q false ≡ true
    → get_or l q false ≡ true
kept_held n true base l q e = e
kept_held n false base l q e = stored_false n (λ b. base + b) l q e

-- ---- a step

-- Block b of file f at client i; the step neither fetches it nor writes it there.
module _
    {z : Sizes}
    (most : Permitted z)
    (s : Service)
    (size : sizes_of s ≡ z)
    (i f b : ℕ)
    (hi : i < z.clients)
    (hb : b < z.blocks) where
  -- what the grant of an open leaves
  granted_held :
      (keep : Bool) (j g : ℕ) (a : Stores)
      → held_in (dropped_unless z.blocks keep j g a) i f b ≡ true
      → held_in a i f b ≡ true
  granted_held keep j g a e = kept_held z.blocks keep (first_cell j g) a.held (cell i f b) e

  answered_held :
      (kind j g : ℕ) (a : Stores)
      → held_in (answered_stores z.blocks kind j g a) i f b ≡ true
      → held_in a i f b ≡ true
  answered_held kind j g a e =
      kept_held z.blocks (not (invalidates kind)) (first_cell j g) a.held (cell i f b) e

  answer_held :
      (x : SharedFile) (a : Stores) (j g : ℕ)
      → held_in (after_answer z x a j g).stores i f b ≡ true
      → held_in a i f b ≡ true
  answer_held x a j g =
      let kind = call_to z.clients x.entry j in
      let o : FileAfter = answered z g x a j kind in
      let e = o.file.entry in
      let opener = e.waiter in
      let keep = keeps_blocks e.mode (grant_of z.clients e opener e.mode) (side_of o.file.sides opener) in
      either (λ (o : FileAfter). held_in o.stores i f b ≡ true → held_in a i f b ≡ true)
      (eqb (calls_out z.clients e) 0)
      (λ _ h. answered_held kind j g a (granted_held keep opener g o.stores h))
      (λ _ h. answered_held kind j g a h)

  -- what the server's forgetting of a client leaves, file by file, and what the client's dropping leaves
  forgetting_held :
      (x : SharedFile) (a : Stores) (j g : ℕ)
      → held_in (after_forgetting z g x a j).stores i f b ≡ true
      → held_in a i f b ≡ true
  unfolding after_forgetting
  forgetting_held x a j g =
      let e = forgotten_entry z.clients x.entry j in
      let kind = call_to z.clients e j in
      let y = with_entry x (answered_entry e j kind) in
      let opener = y.entry.waiter in
      let mode = y.entry.mode in
      let keep = keeps_blocks mode (grant_of z.clients y.entry opener mode) (side_of y.sides opener) in
      either (λ (o : FileAfter). held_in o.stores i f b ≡ true → held_in a i f b ≡ true) (asks_nothing kind)
      (λ _ h. h)
      (λ _.
      either (λ (o : FileAfter). held_in o.stores i f b ≡ true → held_in a i f b ≡ true)
      (eqb (calls_out z.clients y.entry) 0)
      (λ _ h. granted_held keep opener g a h)
      (λ _ h. h))

  forgotten_held :
      (j k : ℕ) (t : Service) → held_at (forgotten_below z j k t) i f b ≡ true → held_at t i f b ≡ true
  unfolding forgotten_below
  forgotten_held j zero t h = h
  forgotten_held j (suc k) t h =
      let u = forgotten_below z j k t in
      forgotten_held j k t (forgetting_held (file_at u k) (stores_of u) j k h)

  dropped_held : (j k : ℕ) (t : Service) → held_at (dropped_below z j k t) i f b ≡ true → held_at t i f b ≡ true
  unfolding dropped_below after_dropping
  dropped_held j zero t h = h
  dropped_held j (suc k) t h =
      let u = dropped_below z j k t in
      dropped_held j k t (granted_held false j k (stores_of u) h)

  -- an embargo, and what its client is told
  aside_held_lem : (j : ℕ) → held_at (put_aside z s j) i f b ≡ true → held_at s i f b ≡ true
  aside_held_lem j = forgotten_held j z.files (marked s j)

  answering_held : (t : Service) (gs : List Granting) → held_at (answering t gs).service i f b ≡ held_at t i f b
  answering_held t [] = refl
  answering_held t (g ∷ gs) = refl

  -- a step that stores the flag of one copy, if a test holds
  put_held :
      (j g c : ℕ) (put : Bool)
      → (j < z.clients) × (g < z.files) × (c < z.blocks)
      → ((eqb f g && eqb b c && eqb i j) && put) ≡ false
      → get_or (cond put (set s.held (cell j g c) true) s.held) (cell i f b) false ≡ true
      → held_at s i f b ≡ true
  put_held j g c put (client, file, block) miss e =
      sym (get_d_elsewhere s.held (cell j g c) (cell i f b) true false (eqb f g && eqb b c && eqb i j) put
      (λ stored.
      cell_same g f (eqb f g && eqb b c) (client_fits most client) (client_fits most hi) (block_fits most block)
      (block_fits most hb) refl)
      miss)
      ∙ e

  done_held :
      (x : Step)
      → refused s x ≡ false
      → copies i f b s x ≡ false
      → held_at (done_of z s x).service i f b ≡ true
      → held_at s i f b ≡ true
  done_held (Open m j g) a miss =
      let e = entry_at s g in
      let keep = keeps_blocks m (grant_of z.clients e j m) (side_of (file_at s g).sides j) in
      either (λ (o : FileAfter). held_in o.stores i f b ≡ true → held_at s i f b ≡ true)
      (eqb (calls_for z.clients e j m) 0)
      (λ _. granted_held keep j g (stores_of s))
      (λ _ h. h)
  done_held (Close m j g) a miss = λ h. h
  done_held (Read j g c) a miss =
      let fetch = (client_at s j g).opens.caching && not (held_at s j g c) in
      put_held j g c fetch (names_there most s size (Read j g c) a) (rw a at miss)
  done_held (Write j g c v) a miss =
      put_held j g c (client_at s j g).opens.caching (names_there most s size (Write j g c v) a) (rw a at miss)
  done_held (Flush j g c) a miss = λ h. h
  done_held (Answer j g) a miss = answer_held (file_at s g) (stores_of s) j g
  done_held Crash a miss = λ h. h
  done_held (Report j) a miss = λ h. h
  done_held End a miss = λ h. h
  done_held (Restart j) a miss = λ h. aside_held_lem j (dropped_held j z.files (put_aside z s j) h)
  done_held (Embargo j g) a miss = λ h. aside_held_lem j (sym (answering_held (put_aside z s j) (grants_aside z s j)) ∙ h)
  done_held (Lift j) a miss = dropped_held j z.files s

  pub held_before :
      (x : Step) → copies i f b s x ≡ false → held_at (after s x) i f b ≡ true → held_at s i f b ≡ true
  unfolding spaced
  held_before x miss h =
      split (refused s x)
      (λ e. subst (λ s'. held_at s' i f b ≡ true) (refused_changes_nothing s x e) h)
      (λ e.
      let (_, done) = when_accepted s x size e in
      done_held x e miss (subst (λ (o : Outcome). held_at o.service i f b ≡ true) done h))

-- Who is under embargo after a step, and since which line the ledger has it. It leads to the promise on every list of
-- lines. Assumes nothing.
use Prim.Native.Nat.{ℕ, zero, suc, ◌+◌, ◌<◌}
use native.Mathlib.Omega.{arith}
use mathlib.Core.Path.{◌≡◌, refl, sym, ap, ◌∙◌, subst}
use mathlib.Core.Bool.{Bool, true, false, cond, not, ◌&&◌}
use mathlib.Core.List.{List, [], ◌∷◌}
use lib.Dec.{eqb}
use lib.ListN.{length, get_or, set}
use lib.Seq.{get_or-set_other}
use borrow.Author.Tests.{eqb-true, eqb-false, eq-eqb, ne_eqb}
use Rattle.sizes.specs.declared.sizes.Sizes.{Sizes}
use Rattle.sizes.specs.Sizes.{max_clients, max_files, Permitted}
use Rattle.sizes.proofs.InForce.{client_fits, file_fits}
use Rattle.protocol.specs.declared.reply.Granting.{Granting}
use Rattle.protocol.specs.declared.step.Step.{Step}
use Rattle.protocol.specs.declared.step.Step.TheVariants.{Open, Close, Read, Write, Flush, Answer, Crash, Report, End}
use Rattle.protocol.specs.declared.step.Step.TheVariants.{Restart, Embargo, Lift}
use Rattle.service.specs.declared.service.Service.{Service}
use Rattle.service.specs.declared.outcome.Outcome.{Outcome}
use Rattle.service.specs.Contents.{sizes_of, table_in, embargoed_at}
use Rattle.service.specs.Embargo.{forgotten_below, dropped_below, marked, put_aside, grants_aside, answering}
use Rattle.service.specs.Step.{step_of}
use Rattle.service.specs.Demand3.{refused, after}
use Rattle.service.proofs.Tests.{split, conflict, and_true, and_false}
use Rattle.service.proofs.Lists.{get_d_set}
use Rattle.service.specs.Space.{spaced}
use Rattle.service.proofs.Accepted.{done_of, when_accepted, refused_changes_nothing}
use Rattle.ledger.specs.declared.ledger.Ledger.{Ledger}
use Rattle.ledger.specs.Ledger.{embargoed_since, is_waiting, ledger_after}
use Rattle.ledger.specs.Provenance.{embargoes}
use Rattle.ledger.proofs.BlockLines.{Ruled}
use Rattle.ledger.proofs.Entries.{get_d_noted, get_d_elsewhere, accepted_reply, not_true, names_there}
use Rattle.ledger.proofs.Entries.{written_rest, flushed_rest, answered_rest, forgotten_since, lifted_since}

-- ---- the flags of the service

-- the step is an accepted restart or an accepted lift of client i
abbrev pub releases : ℕ → Service → Step → Bool
releases i s (Open m j f) = false
releases i s (Close m j f) = false
releases i s (Read j f b) = false
releases i s (Write j f b v) = false
releases i s (Flush j f b) = false
releases i s (Answer j f) = false
releases i s Crash = false
releases i s (Report j) = false
releases i s End = false
releases i s (Restart j) = eqb i j && not (refused s (Restart j))
releases i s (Embargo j f) = false
releases i s (Lift j) = eqb i j && not (refused s (Lift j))

-- neither a sweep of the server nor one of the client changes who is under embargo
forgotten_flags :
    (z : Sizes) (j k : ℕ) (s : Service) → (table_in (forgotten_below z j k s)).embargoed ≡ (table_in s).embargoed
unfolding forgotten_below
forgotten_flags z j zero s = refl
forgotten_flags z j (suc k) s = forgotten_flags z j k s

dropped_flags :
    (z : Sizes) (j k : ℕ) (s : Service) → (table_in (dropped_below z j k s)).embargoed ≡ (table_in s).embargoed
unfolding dropped_below
dropped_flags z j zero s = refl
dropped_flags z j (suc k) s = dropped_flags z j k s

-- a flag that is set after a store was set before, unless the store has set it
set_true : (l : List Bool) (p q : ℕ) → get_or (set l p true) q false ≡ true → eqb q p ≡ false → get_or l q false ≡ true
set_true l p q e other = sym (get_or-set_other l p q true false (eqb-false q p other)) ∙ e

set_false : (l : List Bool) (p q : ℕ) → get_or (set l p false) q false ≡ true → (eqb q p ≡ false) × (get_or l q false ≡ true)
set_false [] p q e = conflict e refl
set_false (a ∷ l) zero zero e = conflict e refl
set_false (a ∷ l) zero (suc q) e = (ne_eqb (suc q) zero (λ z. omega (arith, z)), e)
set_false (a ∷ l) (suc p) zero e = (ne_eqb zero (suc p) (λ z. omega (arith, z)), e)
set_false (a ∷ l) (suc p) (suc q) e =
    let (other, was) = set_false l p q e in
    let apart = eqb-false q p other in
    (ne_eqb (suc q) (suc p) (λ z. apart (omega (arith, z))), was)

-- an embargo grants opens beside it
answering_flags : (t : Service) (gs : List Granting) → table_in (answering t gs).service ≡ table_in t
answering_flags t [] = refl
answering_flags t (g ∷ gs) = refl

-- The sizes in force are z.
module _ {z : Sizes} (s : Service) (size : sizes_of s ≡ z) (i : ℕ) where
  -- what an accepted step leaves
  done_aside :
      (x : Step)
      → refused s x ≡ false
      → embargoed_at (done_of z s x).service i ≡ true
      → embargoes i s x ≡ false
      → (releases i s x ≡ false) × (embargoed_at s i ≡ true)
  done_aside (Open m j f) a e new = (refl, e)
  done_aside (Close m j f) a e new = (refl, e)
  done_aside (Read j f b) a e new = (refl, e)
  done_aside (Write j f b v) a e new = (refl, e)
  done_aside (Flush j f b) a e new = (refl, e)
  done_aside (Answer j f) a e new = (refl, e)
  done_aside Crash a e new = (refl, e)
  done_aside (Report j) a e new = (refl, e)
  done_aside End a e new = (refl, e)
  done_aside (Restart j) a e new =
      let flags = (table_in s).embargoed in
      let all : (table_in (dropped_below z j z.files (put_aside z s j))).embargoed ≡ set flags j true =
      dropped_flags z j z.files (put_aside z s j) ∙ forgotten_flags z j z.files (marked s j) in
      let (other, was) = set_false (set flags j true) j i (subst (λ k. get_or (set k j false) i false ≡ true) all e) in
      (ap (λ t. t && not (refused s (Restart j))) other, set_true flags j i was other)
  done_aside (Embargo j f) a e new =
      let flags = (table_in s).embargoed in
      let other : eqb i j ≡ false = sym (and_true (eqb i j)) ∙ sym (ap (λ t. eqb i j && not t) a) ∙ new in
      let is = subst (λ t. get_or t.embargoed i false ≡ true) (answering_flags (put_aside z s j) (grants_aside z s j)) e in (
        refl,
        set_true flags j i
            (subst (λ k. get_or k i false ≡ true) (forgotten_flags z j z.files (marked s j)) is) other,
      )
  done_aside (Lift j) a e new =
      let flags = (table_in s).embargoed in
      let (other, was) =
      set_false flags j i (subst (λ k. get_or (set k j false) i false ≡ true) (dropped_flags z j z.files s) e) in
      (ap (λ t. t && not (refused s (Lift j))) other, was)

  -- a refused step is no embargo and releases nobody
  refused_releases : (x : Step) → refused s x ≡ true → releases i s x ≡ false
  refused_releases (Open m j f) r = refl
  refused_releases (Close m j f) r = refl
  refused_releases (Read j f b) r = refl
  refused_releases (Write j f b v) r = refl
  refused_releases (Flush j f b) r = refl
  refused_releases (Answer j f) r = refl
  refused_releases Crash r = refl
  refused_releases (Report j) r = refl
  refused_releases End r = refl
  refused_releases (Restart j) r = ap (λ t. eqb i j && not t) r ∙ and_false (eqb i j)
  refused_releases (Embargo j f) r = refl
  refused_releases (Lift j) r = ap (λ t. eqb i j && not t) r ∙ and_false (eqb i j)

  -- who is under embargo after a step, and was not put there by it, was so before and is not released
  pub still_aside :
      (x : Step)
      → embargoed_at (after s x) i ≡ true
      → embargoes i s x ≡ false
      → (releases i s x ≡ false) × (embargoed_at s i ≡ true)
  unfolding spaced
  still_aside x e new =
      split (refused s x)
      (λ r. (refused_releases x r, subst (λ t. embargoed_at t i ≡ true) (refused_changes_nothing s x r) e))
      (λ r.
      let (_, done) = when_accepted s x size r in
      done_aside x r (subst (λ (o : Outcome). embargoed_at o.service i ≡ true) done e) new)

-- ---- the line of the ledger

-- The sizes in force are permitted, the ledger has its lengths, and client i is one.
module _
    {z : Sizes}
    (most : Permitted z)
    (n : ℕ)
    (s : Service)
    (size : sizes_of s ≡ z)
    (l : Ledger)
    (ruled : Ruled l)
    (i : ℕ)
    (hi : i < z.clients) where
  -- a line that is noted of a client
  client_noted :
      (x : Step) (j n' : ℕ)
      → (refused s x ≡ false → j < z.clients)
      → get_or (cond (not (refused s x)) (set l.since (max_files + j) n') l.since) (max_files + i) 0
      ≡ cond (eqb i j && not (refused s x)) n' (embargoed_since l i)
  client_noted x j n' there =
      get_d_noted l.since (max_files + j) (max_files + i) n' 0 (eqb i j) (not (refused s x))
      (λ e. (
        (let small = client_fits most (there (not_true (refused s x) e)) in omega (arith, ruled.since, small)),
        shifted j,
      ))
    where
      shifted : (j : ℕ) → eqb (max_files + i) (max_files + j) ≡ eqb i j
      shifted j =
          split (eqb i j)
          (λ e. eq-eqb (max_files + i) (max_files + j) (ap (λ k. max_files + k) (eqb-true i j e)) ∙ sym e)
          (λ e.
          let other = eqb-false i j e in
          ne_eqb (max_files + i) (max_files + j) (λ same. other (omega (arith, same))) ∙ sym e)

  pub aside_after_lem :
      (x : Step)
      → embargoed_since (ledger_after n s x l) i ≡ cond (embargoes i s x) n (cond (releases i s x) 0 (embargoed_since l i))
  unfolding ledger_after
  aside_after_lem (Open m j f) =
      let reply = (step_of s (Open m j f)).reply in
      get_d_elsewhere l.since f (max_files + i) n 0 false (is_waiting reply)
      (λ e.
      let (_, file, _) = names_there most s size (Open m j f) (accepted_reply reply e) in
      let small = file_fits most file in
      ne_eqb (max_files + i) f (λ same. omega (arith, same, small)))
      refl
  aside_after_lem (Close m j f) = refl
  aside_after_lem (Read j f b) = refl
  aside_after_lem (Write j f b v) =
      ap (λ k. get_or k (max_files + i) 0) (written_rest most n s size l ruled j f b v).since
  aside_after_lem (Flush j f b) =
      ap (λ k. get_or k (max_files + i) 0) (flushed_rest most n s size l ruled j f b).since
  aside_after_lem (Answer j f) =
      ap (λ k. get_or k (max_files + i) 0) (answered_rest most n s size l ruled j f).since
  aside_after_lem Crash = refl
  aside_after_lem (Report j) = refl
  aside_after_lem End = refl
  aside_after_lem (Restart j) =
      let x = Restart j in
      ap (λ k. get_or k (max_files + i) 0) (forgotten_since most n s size l ruled (refused s x) 0 j)
      ∙ client_noted x j 0 (λ a. (names_there most s size x a).0)
  aside_after_lem (Embargo j f) =
      let x = Embargo j f in
      ap (λ k. get_or k (max_files + i) 0) (forgotten_since most n s size l ruled (refused s x) n j)
      ∙ client_noted x j n (λ a. (names_there most s size x a).0)
  aside_after_lem (Lift j) =
      let x = Lift j in
      ap (λ k. get_or k (max_files + i) 0) (lifted_since most n s size l ruled (refused s x) j)
      ∙ client_noted x j 0 (λ a. (names_there most s size x a).0)

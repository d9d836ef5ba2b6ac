-- What stands in the ledger after a line, and in the flags of the copies after a step, by whether the line hits the
-- place. It leads to the promise on every list of lines. Assumes nothing.
use Prim.Native.Nat.{ℕ, ◌+◌, ◌≤◌, ◌<◌}
use native.Mathlib.Omega.{arith}
use mathlib.Core.Path.{◌≡◌, refl, sym, ap, ◌∙◌}
use mathlib.Core.Bool.{Bool, true, false, cond, not, ◌&&◌}
use mathlib.Core.List.{List}
use lib.Arith.{digits_lt}
use lib.Dec.{eqb}
use lib.ListN.{length, get_or, set, length-set}
use lib.Seq.{get_or-set_other}
use borrow.Author.Tests.{eqb-true, eqb-false, ne_eqb, leb-false}
use Rattle.sizes.specs.declared.sizes.Sizes.{Sizes}
use Rattle.sizes.specs.Sizes.{max_files, max_blocks, max_places, max_cells, Permitted, place, cell}
use Rattle.sizes.proofs.InForce.{client_fits, file_fits, block_fits}
use Rattle.protocol.specs.declared.step.Step.{Step}
use Rattle.protocol.specs.declared.step.Step.TheVariants.{Open, Close, Read, Write, Flush, Answer, Crash, Report, End}
use Rattle.protocol.specs.declared.step.Step.TheVariants.{Restart, Embargo, Lift}
use Rattle.protocol.specs.declared.reply.Reply.{Reply}
use Rattle.protocol.specs.declared.reply.Reply.TheVariants.{Granted, Waiting, Value, Refused, Answered}
use Rattle.protocol.specs.declared.reply.Reply.TheVariants.{AnsweredGrant, Done}
use Rattle.protocol.specs.Reply.{is_refused}
use Rattle.protocol.specs.Step.{client_of, file_of, block_of}
use Rattle.service.specs.declared.service.Service.{Service}
use Rattle.service.specs.Contents.{sizes_of, embargoed_at, client_at, held_at}
use Rattle.service.specs.Step.{step_of}
use Rattle.service.specs.Demand3.{refused, delays}
use Rattle.service.proofs.Tests.{split, conflict, either, cond_ap, and_true, and_false, both}
use Rattle.service.proofs.Lists.{get_d_set, length_put}
use Rattle.service.proofs.Contents.{place_same, cell_same, cell_in}
use Rattle.service.proofs.Accepted.{when_accepted}
use Rattle.ledger.specs.declared.ledger.Ledger.{Ledger}
use Rattle.ledger.specs.declared.lines.Lines.{Lines}
use Rattle.ledger.specs.Ledger.{lines_in, lines_at, copied_at, waiting_since, is_waiting, fetches, writes_copy}
use Rattle.ledger.specs.Ledger.{copy_noted, wrote_lines, came_lines, lost_lines, write_noted, came_from, lost_below}
use Rattle.ledger.specs.Ledger.{embargo_noted, ledger_after}
use Rattle.ledger.specs.Provenance.{copies, begins_wait}
use Rattle.ledger.proofs.BlockLines.{Ruled, Rest, lines_with, ruled_with, came_ruled, came_rest, came_past}
use Rattle.ledger.proofs.BlockLines.{came_at_lem, lost_ruled, lost_rest, lost_at_lem}

-- ---- a store that is made only where a test holds

module _ {ℓ} {A : Type ℓ} (l : List A) (p q : ℕ) (a d : A) (t put : Bool) where
  pub get_d_noted :
      (put ≡ true → (p < length l) × (eqb q p ≡ t))
      → get_or (cond put (set l p a) l) q d ≡ cond (t && put) a (get_or l q d)
  get_d_noted h =
      split put
      (λ e. let (inside, same) = h e in
      ap (λ x. get_or (cond x (set l p a) l) q d) e ∙ get_d_set l p q a d t inside same
      ∙ ap (λ x. cond x a (get_or l q d)) (sym (ap (λ x. t && x) e ∙ and_true t)))
      (λ e. ap (λ x. get_or (cond x (set l p a) l) q d) e
      ∙ ap (λ x. cond x a (get_or l q d)) (sym (ap (λ x. t && x) e ∙ and_false t)))

  -- the place is not hit
  pub get_d_elsewhere :
      (put ≡ true → eqb q p ≡ t) → (t && put) ≡ false → get_or (cond put (set l p a) l) q d ≡ get_or l q d
  get_d_elsewhere h miss =
      split put
      (λ e. ap (λ x. get_or (cond x (set l p a) l) q d) e
      ∙ get_or-set_other l p q a d (eqb-false q p (h e ∙ sym (ap (λ x. t && x) e ∙ and_true t) ∙ miss)))
      (λ e. ap (λ x. get_or (cond x (set l p a) l) q d) e)

-- ---- an accepted step names what there is

-- where a reply is no refusal
pub accepted_reply : (r : Reply) → is_waiting r ≡ true → is_refused r ≡ false
accepted_reply (Granted g) e = conflict e refl
accepted_reply Waiting e = refl
accepted_reply (Value v) e = conflict e refl
accepted_reply (Refused k) e = conflict e refl
accepted_reply (Answered n) e = conflict e refl
accepted_reply (AnsweredGrant n i g) e = conflict e refl
accepted_reply Done e = conflict e refl

pub not_true : (b : Bool) → not b ≡ true → b ≡ false
not_true true e = conflict e refl
not_true false e = refl

-- a place, and the places of a file
pub place_fits : {f b : ℕ} → f < max_files → b < max_blocks → place f b < max_places
place_fits hf hb = digits_lt hf hb

file_fits_places : {f : ℕ} → f < max_files → place f 0 + max_blocks ≤ max_places
file_fits_places hf = omega (arith, hf)

-- the client, the file and the block that a step names; one that names none has 0
abbrev pub There : Sizes → Step → Type 0
There z x = (client_of x < z.clients) × (file_of x < z.files) × (block_of x < z.blocks)

module _ {z : Sizes} (most : Permitted z) (s : Service) (size : sizes_of s ≡ z) where
  pub names_there : (x : Step) → refused s x ≡ false → There z x
  names_there (Open m i f) a =
      let (client, (file, _)) = (when_accepted s (Open m i f) size a).0 in
      (leb-false z.clients i client, leb-false z.files f file, most.some_block)
  names_there (Close m i f) a =
      let (client, (file, _)) = (when_accepted s (Close m i f) size a).0 in
      (leb-false z.clients i client, leb-false z.files f file, most.some_block)
  names_there (Read i f b) a =
      let (client, (file, (block, _))) = (when_accepted s (Read i f b) size a).0 in
      (leb-false z.clients i client, leb-false z.files f file, leb-false z.blocks b block)
  names_there (Write i f b v) a =
      let (client, (file, (block, _))) = (when_accepted s (Write i f b v) size a).0 in
      (leb-false z.clients i client, leb-false z.files f file, leb-false z.blocks b block)
  names_there (Flush i f b) a =
      let (client, (file, (block, _))) = (when_accepted s (Flush i f b) size a).0 in
      (leb-false z.clients i client, leb-false z.files f file, leb-false z.blocks b block)
  names_there (Answer i f) a =
      let (client, (file, _)) = (when_accepted s (Answer i f) size a).0 in
      (leb-false z.clients i client, leb-false z.files f file, most.some_block)
  names_there Crash a = (most.some_client, most.some_file, most.some_block)
  names_there (Report i) a =
      let (client, _) = (when_accepted s (Report i) size a).0 in
      (leb-false z.clients i client, most.some_file, most.some_block)
  names_there End a = (most.some_client, most.some_file, most.some_block)
  names_there (Restart i) a =
      let (client, _) = (when_accepted s (Restart i) size a).0 in
      (leb-false z.clients i client, most.some_file, most.some_block)
  names_there (Embargo i f) a =
      let (client, (file, _)) = (when_accepted s (Embargo i f) size a).0 in
      (leb-false z.clients i client, leb-false z.files f file, most.some_block)
  names_there (Lift i) a =
      let (client, _) = (when_accepted s (Lift i) size a).0 in
      (leb-false z.clients i client, most.some_file, most.some_block)

  -- an accepted step's place, and its file's
  pub step_place : (x : Step) → refused s x ≡ false → place (file_of x) (block_of x) < max_places
  step_place x a =
      let (_, file, block) = names_there x a in place_fits (file_fits most file) (block_fits most block)

  pub step_file : (x : Step) → refused s x ≡ false → place (file_of x) 0 + max_blocks ≤ max_places
  step_file x a = let (_, file, _) = names_there x a in file_fits_places (file_fits most file)

-- ---- the ledger after line n

-- a change is made unless the step is refused
module _ (r : Bool) (l m : Ledger) where
  rest_unless : Rest l m → Rest l (cond r l m)
  rest_unless h = either (Rest l) r (λ _. record { copied = refl; since = refl }) (λ _. h)

  ruled_unless : Ruled l → (r ≡ false → Ruled m) → Ruled (cond r l m)
  ruled_unless h k = either Ruled r (λ _. h) k

-- an embargo is noted, or that there is none any more
embargo_ruled : (n i : ℕ) (l : Ledger) → Ruled l → Ruled (embargo_noted n i l)
embargo_ruled n i l h =
    record {
      written = h.written;
      writers = h.writers;
      copied = h.copied;
      since = length-set l.since (max_files + i) n ∙ h.since;
    }

copy_ruled : (test : Bool) (n i f b : ℕ) (l : Ledger) → Ruled l → Ruled (copy_noted test n i f b l)
copy_ruled test n i f b l h =
    record {
      written = h.written;
      writers = h.writers;
      copied = length_put l.copied (cell i f b) n test ∙ h.copied;
      since = h.since;
    }

-- The sizes in force are permitted, and the ledger has its lengths.
module _
    {z : Sizes}
    (most : Permitted z)
    (n : ℕ)
    (s : Service)
    (size : sizes_of s ≡ z)
    (l : Ledger)
    (ruled : Ruled l) where
  pub written_rest :
      (i f b v : ℕ) → Rest l (cond (refused s (Write i f b v)) l (write_noted n i (place f b) (embargoed_at s i) (delays s i f) l))
  written_rest i f b v =
      rest_unless (refused s (Write i f b v)) l (write_noted n i (place f b) (embargoed_at s i) (delays s i f) l)
      (record { copied = refl; since = refl })

  pub flushed_rest : (i f b : ℕ) → Rest l (cond (refused s (Flush i f b)) l (came_from i (place f b) 1 l))
  flushed_rest i f b =
      rest_unless (refused s (Flush i f b)) l (came_from i (place f b) 1 l) (came_rest i (place f b) l ruled 1)

  pub answered_rest : (i f : ℕ) → Rest l (cond (refused s (Answer i f)) l (came_from i (place f 0) max_blocks l))
  answered_rest i f =
      rest_unless (refused s (Answer i f)) l (came_from i (place f 0) max_blocks l)
      (came_rest i (place f 0) l ruled max_blocks)

  -- what is lost at a restart or an embargo, and what is noted of an embargo, unless the step is refused
  forgotten_copied :
      (r : Bool) (n' i : ℕ) → (cond r l (embargo_noted n' i (lost_below i max_places l))).copied ≡ l.copied
  forgotten_copied true n' i = refl
  forgotten_copied false n' i = (lost_rest i l ruled).copied

  lifted_copied : (r : Bool) (i : ℕ) → (cond r l (embargo_noted 0 i l)).copied ≡ l.copied
  lifted_copied true i = refl
  lifted_copied false i = refl

  pub forgotten_since :
      (r : Bool) (n' i : ℕ)
      → (cond r l (embargo_noted n' i (lost_below i max_places l))).since
      ≡ cond (not r) (set l.since (max_files + i) n') l.since
  forgotten_since true n' i = refl
  forgotten_since false n' i = ap (λ k. set k (max_files + i) n') (lost_rest i l ruled).since

  pub lifted_since :
      (r : Bool) (i : ℕ)
      → (cond r l (embargo_noted 0 i l)).since ≡ cond (not r) (set l.since (max_files + i) 0) l.since
  lifted_since true i = refl
  lifted_since false i = refl

  pub ruled_after : (x : Step) → Ruled (ledger_after n s x l)
  unfolding ledger_after
  ruled_after (Open m i f) =
      record {
        written = ruled.written;
        writers = ruled.writers;
        copied = ruled.copied;
        since = length_put l.since f n (is_waiting (step_of s (Open m i f)).reply) ∙ ruled.since;
      }
  ruled_after (Close m i f) = ruled
  ruled_after (Read i f b) =
      copy_ruled (fetches (client_at s i f).opens.caching (held_at s i f b) (step_of s (Read i f b)).reply) n i f b l
      ruled
  ruled_after (Write i f b v) =
      let x = Write i f b v in
      copy_ruled (writes_copy (delays s i f) (step_of s x).reply) n i f b
      (cond (refused s x) l (write_noted n i (place f b) (embargoed_at s i) (delays s i f) l))
      (ruled_unless (refused s x) l (write_noted n i (place f b) (embargoed_at s i) (delays s i f) l) ruled
      (λ a.
      ruled_with (wrote_lines n i (embargoed_at s i) (delays s i f) (lines_at l f b)) (place f b) (step_place most s size x a) l ruled))
  ruled_after (Flush i f b) =
      let x = Flush i f b in
      ruled_unless (refused s x) l (came_from i (place f b) 1 l) ruled
      (λ a. came_ruled i (place f b) l ruled 1 (let h = step_place most s size x a in omega (arith, h)))
  ruled_after (Answer i f) =
      ruled_unless (refused s (Answer i f)) l (came_from i (place f 0) max_blocks l) ruled
      (λ a. came_ruled i (place f 0) l ruled max_blocks (step_file most s size (Answer i f) a))
  ruled_after Crash = ruled
  ruled_after (Report i) = ruled
  ruled_after End = ruled
  ruled_after (Restart i) =
      ruled_unless (refused s (Restart i)) l (embargo_noted 0 i (lost_below i max_places l)) ruled
      (λ _. embargo_ruled 0 i (lost_below i max_places l) (lost_ruled i l ruled))
  ruled_after (Embargo i f) =
      ruled_unless (refused s (Embargo i f)) l (embargo_noted n i (lost_below i max_places l)) ruled
      (λ _. embargo_ruled n i (lost_below i max_places l) (lost_ruled i l ruled))
  ruled_after (Lift i) =
      ruled_unless (refused s (Lift i)) l (embargo_noted 0 i l) ruled (λ _. embargo_ruled 0 i l ruled)

  -- File f is one.
  module _ (f : ℕ) (hf : f < z.files) where
    -- what is noted of an embargo is noted past the files
    not-a-file :
        (n' i : ℕ) (r : Bool)
        → get_or (cond (not r) (set l.since (max_files + i) n') l.since) f 0 ≡ get_or l.since f 0
    not-a-file n' i true = refl
    not-a-file n' i false =
        let small = file_fits most hf in
        get_or-set_other l.since (max_files + i) f n' 0 (λ e. omega (arith, e, small))

    pub wait-after : (x : Step) → waiting_since (ledger_after n s x l) f ≡ cond (begins_wait f s x) n (waiting_since l f)
    unfolding ledger_after
    wait-after (Open m i f') =
        get_d_noted l.since f' f n 0 (eqb f f') (is_waiting (step_of s (Open m i f')).reply)
        (λ e.
        let (_, file, _) = names_there most s size (Open m i f') (accepted_reply (step_of s (Open m i f')).reply e) in
        (let small = file_fits most file in omega (arith, ruled.since, small), refl))
    wait-after (Close m i f') = refl
    wait-after (Read i f' b) = refl
    wait-after (Write i f' b v) = ap (λ k. get_or k f 0) (written_rest i f' b v).since
    wait-after (Flush i f' b) = ap (λ k. get_or k f 0) (flushed_rest i f' b).since
    wait-after (Answer i f') = ap (λ k. get_or k f 0) (answered_rest i f').since
    wait-after Crash = refl
    wait-after (Report i) = refl
    wait-after End = refl
    wait-after (Restart i) =
        ap (λ k. get_or k f 0) (forgotten_since (refused s (Restart i)) 0 i) ∙ not-a-file 0 i (refused s (Restart i))
    wait-after (Embargo i f') =
        ap (λ k. get_or k f 0) (forgotten_since (refused s (Embargo i f')) n i)
        ∙ not-a-file n i (refused s (Embargo i f'))
    wait-after (Lift i) =
        ap (λ k. get_or k f 0) (lifted_since (refused s (Lift i)) i) ∙ not-a-file 0 i (refused s (Lift i))

    -- Block b is one.
    module _ (b : ℕ) (hb : b < z.blocks) where
      module _ (i : ℕ) (hi : i < z.clients) where
        -- where a read or a write is accepted, its copy's cell is inside, and it is this one or not
        cell-hit : {A : Type 0} (k : List A) (i' f' b' : ℕ)
            → length k ≡ max_cells
            → (i' < z.clients) × (f' < z.files) × (b' < z.blocks)
            → (cell i' f' b' < length k) × (eqb (cell i f b) (cell i' f' b') ≡ (eqb f f' && eqb b b' && eqb i i'))
        cell-hit k i' f' b' len (client, file, block) = (
          cell_in k len (client_fits most client) (file_fits most file) (block_fits most block),
          cell_same f' f (eqb f f' && eqb b b') (client_fits most client) (client_fits most hi)
              (block_fits most block) (block_fits most hb) refl,
        )

        pub copy-after :
            (x : Step) → copied_at (ledger_after n s x l) i f b ≡ cond (copies i f b s x) n (copied_at l i f b)
        unfolding ledger_after
        copy-after (Open m i' f') = refl
        copy-after (Close m i' f') = refl
        copy-after (Read i' f' b') =
            let rejected = refused s (Read i' f' b') in
            let caching = (client_at s i' f').opens.caching in
            let held = held_at s i' f' b' in
            get_d_noted l.copied (cell i' f' b') (cell i f b) n 0 (eqb f f' && eqb b b' && eqb i i')
            (not rejected && (caching && not held))
            (λ e.
            let (accepted, _) = both (not rejected) (caching && not held) e in
            cell-hit l.copied i' f' b' ruled.copied
            (names_there most s size (Read i' f' b') (not_true rejected accepted)))
        copy-after (Write i' f' b' v) =
            let rejected = refused s (Write i' f' b' v) in
            let caching = (client_at s i' f').opens.caching in
            ap (λ k. get_or (cond (not rejected && caching) (set k (cell i' f' b') n) k) (cell i f b) 0)
            (written_rest i' f' b' v).copied
            ∙ get_d_noted l.copied (cell i' f' b') (cell i f b) n 0 (eqb f f' && eqb b b' && eqb i i')
            (not rejected && caching)
            (λ e.
            let (accepted, _) = both (not rejected) caching e in
            cell-hit l.copied i' f' b' ruled.copied
            (names_there most s size (Write i' f' b' v) (not_true rejected accepted)))
        copy-after (Flush i' f' b') = ap (λ k. get_or k (cell i f b) 0) (flushed_rest i' f' b').copied
        copy-after (Answer i' f') = ap (λ k. get_or k (cell i f b) 0) (answered_rest i' f').copied
        copy-after Crash = refl
        copy-after (Report i') = refl
        copy-after End = refl
        copy-after (Restart i') = ap (λ k. get_or k (cell i f b) 0) (forgotten_copied (refused s (Restart i')) 0 i')
        copy-after (Embargo i' f') =
            ap (λ k. get_or k (cell i f b) 0) (forgotten_copied (refused s (Embargo i' f')) n i')
        copy-after (Lift i') = ap (λ k. get_or k (cell i f b) 0) (lifted_copied (refused s (Lift i')) i')

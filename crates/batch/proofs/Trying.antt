-- One opening more: what the loop over a list has done when it stands before an opening. Assumes nothing.
use Prim.Native.Nat.{ℕ, suc, ◌+◌, ◌-◌, ◌≤◌, ◌<◌}
use mathlib.Core.Path.{◌≡◌, refl, sym, ap, ap₂, subst, ◌∙◌}
use mathlib.Core.Bool.{Bool, true, false}
use mathlib.Core.List.{List, [], ◌∷◌, ◌++◌, append_assoc, append-nil}
use native.Mathlib.Numerals.{add-one}
use native.Mathlib.Omega.{arith}
use lib.ListN.{length, get_or, drop, set, replicate, length-append, length-map, drop_of_length-le}
use lib.Seq.{set_at, drop-cons}
use borrow.Author.Tests.{lt-ltb, le-ltb}
use Rattle.records.specs.declared.record.Mode.{Mode}
use Rattle.protocol.specs.declared.reply.Reply.TheVariants.{Done}
use Rattle.protocol.specs.declared.step.Step.{Step}
use Rattle.protocol.specs.declared.step.Step.TheVariants.{Open}
use Rattle.service.specs.declared.outcome.Outcome.{Outcome}
use Rattle.service.specs.declared.service.Service.{Service}
use Rattle.service.specs.Step.{step_of}
use Rattle.batch.specs.declared.batch.BatchOutcome.{BatchOutcome}
use Rattle.batch.specs.declared.batch.OpenReply.{OpenReply}
use Rattle.batch.specs.Batch.{Opening, mode_at, listed_from, listed, opens_of, reply_of, replies_to}
use Rattle.service.specs.NothingBehind.{after_steps}
use Rattle.batch.specs.Batch.{max_openings, no_reply, in_places, tried, untried, list_too_long, batch_of}

-- the two ways of a batch
pub too_long : (s : Service) (i : ℕ) (l : List Opening) → (list_too_long l).0 ≡ true → untried s 18 ≡ batch_of s i l
unfolding batch_of
too_long s i l e = rw e

pub not_too_long :
    (s : Service) (i : ℕ) (l : List Opening) → (list_too_long l).0 ≡ false → tried s (opens_of i l) ≡ batch_of s i l
unfolding batch_of
not_too_long s i l e = rw e

-- From the service s the steps xs were to be taken. k of them are: the service is t, their replies stand in their
-- places, and the rest ys gives what the whole was to give.
pub record Reached
    (s : Service) (xs : List Step) (t : Service) (k : ℕ) (ys : List Step) (replies : List OpenReply) : Type 0 where
  pub told : List OpenReply
  pub number : length told ≡ k
  pub placed : replies ≡ told ++ replicate (max_openings - k) no_reply
  pub onward : told ++ replies_to t ys ≡ replies_to s xs
  pub final : after_steps t ys ≡ after_steps s xs

one_place :
    (k : ℕ)
    → k < max_openings
    → replicate (max_openings - k) no_reply ≡ no_reply ∷ replicate (max_openings - (k + 1)) no_reply
one_place k h =
    let more : max_openings - k ≡ suc (max_openings - (k + 1)) = omega (arith, h) in
    ap (λ (n : ℕ). replicate n no_reply) more

-- what is put together at the end
abbrev handed : Service → ℕ → List OpenReply → BatchOutcome
handed s k replies = record { service = s; reply = Done; count = k; replies = replies }

module _ (s : Service) (xs : List Step) where
  pub none_yet : Reached s xs s 0 xs (replicate max_openings no_reply)
  none_yet = record { told = []; number = refl; placed = refl; onward = refl; final = refl }

  -- the next step is taken, with this outcome
  one_more :
      (t : Service) (k : ℕ) (x : Step) (ys : List Step) (replies : List OpenReply) (o : Outcome)
      → Reached s xs t k (x ∷ ys) replies
      → k < max_openings
      → o ≡ step_of t x
      → Reached s xs o.service (k + 1) ys (set replies k (reply_of o))
  one_more t k x ys replies o w room is =
      let told = w.told in
      let one = reply_of o ∷ [] in
      let rest = replicate (max_openings - (k + 1)) no_reply in
      record {
        told = told ++ one;
        number = length-append told one ∙ ap (λ (n : ℕ). n + 1) w.number;
        placed =
            ap (λ (l : List OpenReply). set l k (reply_of o))
            (w.placed ∙ ap (λ (l : List OpenReply). told ++ l) (one_place k room))
            ∙ set_at told no_reply rest (reply_of o) k w.number
            ∙ sym (append_assoc told one rest);
        onward =
            append_assoc told one (replies_to o.service ys)
            ∙ ap (λ (p : Outcome). told ++ reply_of p ∷ replies_to p.service ys) is
            ∙ w.onward;
        final = ap (λ (p : Outcome). after_steps p.service ys) is ∙ w.final;
      }

  -- all are taken
  all_done :
      (t : Service) (k : ℕ) (replies : List OpenReply)
      → Reached s xs t k [] replies
      → handed t (length xs) replies ≡ tried s xs
  all_done t k replies w =
      let all : w.told ≡ replies_to s xs = sym (append-nil w.told) ∙ w.onward in
      let number : k ≡ length (replies_to s xs) = sym w.number ∙ ap length all in
      let places : replies ≡ in_places (replies_to s xs) =
      w.placed ∙ ap₂ (λ (l : List OpenReply) (n : ℕ). l ++ replicate (max_openings - n) no_reply) all number in
      ap₂ (λ (u : Service) (l : List OpenReply). handed u (length xs) l) w.final places

-- ---- the list as it is lent

-- it is as long as the files are
length_listed : (k : ℕ) (files : List ℕ) (flags : List Bool) → length (listed_from k files flags) ≡ length files
length_listed k [] flags = refl
length_listed k (f ∷ files) flags = ap suc (length_listed (suc k) files flags)

module _ (s : Service) (i : ℕ) (files : List ℕ) (flags : List Bool) where
  abbrev all_opens : List Step
  all_opens = opens_of i (listed files flags)

  -- the opens that are left after the first k
  abbrev opens_from : ℕ → List Step
  opens_from k = opens_of i (listed_from k (drop k files) flags)

  next_open :
      (k : ℕ) (mode : Mode)
      → k < length files
      → mode ≡ mode_at flags k
      → opens_from k ≡ Open mode i (get_or files k 0) ∷ opens_from (k + 1)
  next_open k mode h e = rw (drop-cons files k 0 h, e, add-one)

  -- the next opening is tried, with this outcome
  pub one_opening :
      (t : Service) (k : ℕ) (mode : Mode) (replies : List OpenReply) (o : Outcome)
      → Reached s all_opens t k (opens_from k) replies
      → k < length files
      → length files ≤ max_openings
      → mode ≡ mode_at flags k
      → o ≡ step_of t (Open mode i (get_or files k 0))
      → Reached s all_opens o.service (k + 1) (opens_from (k + 1)) (set replies k (reply_of o))
  one_opening t k mode replies o w h few e is =
      let next = subst (λ (ys : List Step). Reached s all_opens t k ys replies) (next_open k mode h e) w in
      let room : k < max_openings = omega (arith, h, few) in
      one_more s all_opens t k (Open mode i (get_or files k 0)) (opens_from (k + 1)) replies o next room is

  -- none is left, and the list is not too long
  pub tried_all :
      (t : Service) (k : ℕ) (replies : List OpenReply)
      → Reached s all_opens t k (opens_from k) replies
      → length files ≤ k
      → length files ≤ max_openings
      → handed t (length files) replies ≡ batch_of s i (listed files flags)
  tried_all t k replies w h few =
      let none : opens_from k ≡ [] =
      ap (λ (fs : List ℕ). opens_of i (listed_from k fs flags)) (drop_of_length-le files h) in
      let number : length all_opens ≡ length files = length-map (listed files flags) _ ∙ length_listed 0 files flags in
      ap (λ (n : ℕ). handed t n replies) (sym number)
      ∙ all_done s all_opens t k replies (subst (λ (ys : List Step). Reached s all_opens t k ys replies) none w)
      ∙ not_too_long s i (listed files flags) (rw (length_listed 0 files flags) (le-ltb _ _ few))

  pub refused_list : max_openings < length files → untried s 18 ≡ batch_of s i (listed files flags)
  refused_list h = too_long s i (listed files flags) (rw (length_listed 0 files flags) (lt-ltb _ _ h))

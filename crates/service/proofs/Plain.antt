-- Where no client restarts or is put under embargo no write is lost, and the latest write not lost is the number that the
-- plain book has. Assumes nothing.
use Prim.Native.Nat.{ℕ}
use mathlib.Core.Path.{◌≡◌, refl, ap, ◌∙◌}
use mathlib.Core.Bool.{Bool, true, false, cond, ◌&&◌, true≢false}
use mathlib.Core.List.{List, [], ◌∷◌}
use lib.Dec.{eqb}
use lib.ListN.{get_or}
use Rattle.protocol.specs.declared.reply.Reply.TheVariants.{Value}
use Rattle.protocol.specs.declared.step.Step.{Step}
use Rattle.protocol.specs.declared.step.Step.TheVariants.{Open, Close, Read, Write, Flush, Answer, Crash, Report, End}
use Rattle.protocol.specs.declared.step.Step.TheVariants.{Restart, Embargo, Lift}
use Rattle.protocol.specs.Book.{latest, wrote, came}
use Rattle.protocol.proofs.Invariant.Book.{latest_came}
use Rattle.sizes.specs.Sizes.{max_clients}
use Rattle.decision.specs.Lists.{first_of}
use Rattle.decision.proofs.Beyond.{get_d_alike}
use Rattle.table.specs.declared.table.TableOutcome.{TableOutcome}
use Rattle.table.specs.TableStep.{clashing, report_tests, end_tests, table_step}
use Rattle.service.specs.declared.service.Service.{Service}
use Rattle.service.specs.Contents.{sizes_of, table_in, embargoed_at, reported_at}
use Rattle.service.specs.Fresh.{fresh}
use Rattle.service.specs.Step.{moved, step_of}
use Rattle.service.specs.Space.{spaced}
use Rattle.service.proofs.Tests.{either}
use Rattle.service.specs.Demand3.{refused, after, Memory, blank, at_block, delays, fed, remembered, Recovery, none, recovery_after}
use Rattle.service.specs.Demand3.{Holds}
use Rattle.service.specs.Plain.{Book, zeros, noted, is_on_all, Plain, PlainlyHolds, PlainDemand3}
use Rattle.service.proofs.Demand3.{demand3}

-- the latest write not lost is the book's number
abbrev Alike : Memory → Book → Type 0
Alike m k = (f b : ℕ) → latest (m f b) ≡ k f b

alike_after :
    (m : Memory) (k : Book) (x : Step) (refusal : Bool) (delayed : ℕ → ℕ → Bool) (aside : ℕ → Bool)
    → is_on_all x ≡ false
    → ((i : ℕ) → aside i ≡ false)
    → Alike m k
    → Alike (fed m x refusal delayed aside) (noted k x refusal)
alike_after m k (Open mode i g) refusal delayed aside e nobody h f b = h f b
alike_after m k (Close mode i g) refusal delayed aside e nobody h f b = h f b
alike_after m k (Read i g c) refusal delayed aside e nobody h f b = h f b
alike_after m k (Write i g c v) true delayed aside e nobody h f b = h f b
alike_after m k (Write i g c v) false delayed aside e nobody h f b =
    ap (λ t. latest (cond t m (at_block m g c (wrote i v (delayed i g))) f b)) (nobody i) ∙ at (eqb f g && eqb b c)
  where
    at : (t : Bool) → latest (cond t (wrote i v (delayed i g) (m f b)) (m f b)) ≡ cond t v (k f b)
    at true = refl
    at false = h f b
alike_after m k (Flush i g c) true delayed aside e nobody h f b = h f b
alike_after m k (Flush i g c) false delayed aside e nobody h f b = at (eqb f g && eqb b c)
  where
    at : (t : Bool) → latest (cond t (came i (m f b)) (m f b)) ≡ k f b
    at true = latest_came i (m f b) ∙ h f b
    at false = h f b
alike_after m k (Answer i g) true delayed aside e nobody h f b = h f b
alike_after m k (Answer i g) false delayed aside e nobody h f b = at (eqb f g)
  where
    at : (t : Bool) → latest (cond t (came i (m f b)) (m f b)) ≡ k f b
    at true = latest_came i (m f b) ∙ h f b
    at false = h f b
alike_after m k Crash refusal delayed aside e nobody h f b = h f b
alike_after m k (Report i) refusal delayed aside e nobody h f b = h f b
alike_after m k End refusal delayed aside e nobody h f b = h f b
alike_after m k (Restart i) refusal delayed aside e nobody h f b = absurd (true≢false e)
alike_after m k (Embargo i g) refusal delayed aside e nobody h f b = absurd (true≢false e)
alike_after m k (Lift i) refusal delayed aside e nobody h f b = absurd (true≢false e)

-- such a step leaves the embargoes
embargoes_stay : (s : Service) (x : Step) → is_on_all x ≡ false → (table_in (after s x)).embargoed ≡ (table_in s).embargoed
unfolding step_of moved spaced table_step
embargoes_stay s (Open mode i f) e = refl
embargoes_stay s (Close mode i f) e = refl
embargoes_stay s (Read i f b) e = refl
embargoes_stay s (Write i f b v) e = refl
embargoes_stay s (Flush i f b) e = refl
embargoes_stay s (Answer i f) e = refl
embargoes_stay s Crash e = refl
embargoes_stay s (Report i) e =
    either (λ (o : TableOutcome). o.table.embargoed ≡ (table_in s).embargoed)
    (eqb
    (first_of
    (report_tests (sizes_of s) (embargoed_at s i) (table_in s).recovering (reported_at s i)
    (clashing (sizes_of s) (table_in s) s.clients i)
    i))
    0)
    (λ _. refl) (λ _. refl)
embargoes_stay s End e =
    either (λ (o : TableOutcome). o.table.embargoed ≡ (table_in s).embargoed)
    (eqb (first_of (end_tests (sizes_of s) (table_in s).recovering (table_in s).reported (table_in s).embargoed)) 0)
    (λ _. refl) (λ _. refl)
embargoes_stay s (Restart i) e = absurd (true≢false e)
embargoes_stay s (Embargo i f) e = absurd (true≢false e)
embargoes_stay s (Lift i) e = absurd (true≢false e)

plainly :
    (s : Service) (m : Memory) (k : Book) (r : Recovery) (steps : List Step)
    → Plain steps
    → ((i : ℕ) → embargoed_at s i ≡ false)
    → Alike m k
    → Holds s m r steps
    → PlainlyHolds s k r steps
plainly s m k r [] n nobody h holds = tt
plainly s m k r (x ∷ xs) n nobody h holds = (
  λ i f b e a. holds.0 i f b e (nobody i) a ∙ ap Value (h f b),
  holds.1,
  plainly (after s x) (remembered s m x) (noted k x (refused s x)) (recovery_after s r x (refused s x)) xs n.1
      (λ i. ap (λ (l : List Bool). get_or l i false) (embargoes_stay s x n.0) ∙ nobody i)
      (alike_after m k x (refused s x) (delays s) (embargoed_at s) n.0 nobody h)
      holds.2,
)

pub plain_demand3 : PlainDemand3
unfolding fresh
plain_demand3 z =
    record {
      always = λ steps n.
          plainly (fresh z) blank zeros none steps n (λ i. get_d_alike max_clients false i) (λ f b. refl)
          ((demand3 z).always steps);
    }

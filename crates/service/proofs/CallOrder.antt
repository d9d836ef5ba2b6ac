-- "They now go out, and are printed, in ascending station number" (document 02, Wish 1): the callbacks of every outcome
-- are in order, the printed ones are the same, and those of an open that waits are the ones that are due. Assumes
-- nothing.
use Prim.Native.Nat.{ℕ, ◌<◌, ◌≤◌}
use mathlib.Core.Path.{◌≡◌, refl, subst⁻¹}
use mathlib.Core.Bool.{Bool, true, false, cond}
use mathlib.Core.List.{List, [], ◌∷◌}
use mathlib.Core.List.{Memᴰ as Member}
use mathlib.Core.Logic.{◌↔◌, ◌≢◌}
use lib.Dec.{eqb}
use lib.ListN.{length-replicate}
use Rattle.records.specs.declared.record.Mode.{Mode}
use Rattle.decision.specs.Callback.{callback_due, ordered_calls, InOrder}
use Rattle.decision.proofs.Beyond.{get_d_alike}
use Rattle.decision.proofs.CallOrder.{NonePast, in_order, calls_past, none_due_past, due_in_order}
use Rattle.sizes.specs.declared.sizes.Sizes.{Sizes}
use Rattle.sizes.specs.Sizes.{max_clients}
use Rattle.sizes.proofs.InForce.{in_force_permitted}
use Rattle.protocol.specs.declared.reply.Grant.{Grant}
use Rattle.protocol.specs.declared.reply.Granting.{Granting}
use Rattle.protocol.specs.declared.reply.Reply.TheVariants.{Granted, Waiting}
use Rattle.protocol.specs.declared.step.Step.{Step}
use Rattle.protocol.specs.declared.step.Step.TheVariants.{Open, Close, Read, Write, Flush, Answer, Crash, Report, End}
use Rattle.protocol.specs.declared.step.Step.TheVariants.{Restart, Embargo, Lift}
use Rattle.protocol.specs.Entry.{record_at, call_to, calls_due, calls_for, calls_out, grant_of}
use Rattle.protocol.specs.Reply.{no_calls}
use Rattle.file.specs.FileStep.{FileAfter, answered}
use Rattle.service.specs.declared.service.Service.{Service}
use Rattle.service.specs.declared.outcome.Outcome.{Outcome}
use Rattle.service.specs.Contents.{sizes_of, entry_at, file_at, stores_of}
use Rattle.service.specs.Embargo.{put_aside, grants_aside, answering}
use Rattle.service.specs.Step.{step_of}
use Rattle.service.proofs.Tests.{split, either}
use Rattle.service.proofs.Accepted.{done_of, refusal_of, accepted, rejected}

pub calls_in_order : (s : Service) (x : Step) → InOrder (sizes_of s).clients (step_of s x).calls
calls_in_order s x = in_order (sizes_of s).clients (step_of s x).calls

-- ---- the callbacks of all places, which a line prints, are those of the clients in force

no_calls_past : (n : ℕ) → NonePast n no_calls
no_calls_past n i past = get_d_alike max_clients 0 i

-- an answer with any grants calls nobody
answering_silent : (s : Service) (gs : List Granting) → (answering s gs).calls ≡ no_calls
answering_silent s [] = refl
answering_silent s (g ∷ gs) = refl

-- what a step does, where z are the sizes in force
done_past : (z : Sizes) (s : Service) (x : Step) → z.clients ≤ max_clients → NonePast z.clients (done_of z s x).calls
done_past z s (Open m i f) fits =
    let n = z.clients in
    let e = entry_at s f in
    either (λ (o : FileAfter). NonePast n o.calls) (eqb (calls_for n e i m) 0) (λ none. no_calls_past n)
    (λ some.
    none_due_past n (record_at e) e.last i m no_calls (rw length-replicate fits) (no_calls_past n))
done_past z s (Close m i f) fits = no_calls_past z.clients
done_past z s (Read i f b) fits = no_calls_past z.clients
done_past z s (Write i f b v) fits = no_calls_past z.clients
done_past z s (Flush i f b) fits = no_calls_past z.clients
done_past z s (Answer i f) fits =
    let o : FileAfter = answered z f (file_at s f) (stores_of s) i (call_to z.clients (entry_at s f) i) in
    either (λ (o : FileAfter). NonePast z.clients o.calls) (eqb (calls_out z.clients o.file.entry) 0)
    (λ last. no_calls_past z.clients) (λ more. no_calls_past z.clients)
done_past z s Crash fits = no_calls_past z.clients
done_past z s (Report i) fits = no_calls_past z.clients
done_past z s End fits = no_calls_past z.clients
done_past z s (Restart i) fits = no_calls_past z.clients
done_past z s (Embargo i f) fits =
    subst⁻¹ (NonePast z.clients) (answering_silent (put_aside z s i) (grants_aside z s i)) (no_calls_past z.clients)
done_past z s (Lift i) fits = no_calls_past z.clients

none_past : (s : Service) (x : Step) → NonePast (sizes_of s).clients (step_of s x).calls
none_past s x =
    let n = (sizes_of s).clients in
    split (eqb (refusal_of s x) 0)
    (λ e. subst⁻¹ (λ (o : Outcome). NonePast n o.calls) (accepted s x e)
    (done_past (sizes_of s) s x (in_force_permitted s.sizes).clients))
    (λ e. subst⁻¹ (λ (o : Outcome). NonePast n o.calls) (rejected s x e) (no_calls_past n))

-- a line prints the callbacks of all places (`fields_text`, crates/stepfile/specs/Line.antt)
pub printed_calls :
    (s : Service) (x : Step)
    → ordered_calls max_clients (step_of s x).calls ≡ ordered_calls (sizes_of s).clients (step_of s x).calls
printed_calls s x =
    calls_past (sizes_of s).clients max_clients (step_of s x).calls (in_force_permitted s.sizes).clients
    (none_past s x)

-- ---- the callbacks of an open that waits

-- an open is granted, or waits
not_granted :
    (t : Bool) (g : Grant) (granted waiting : FileAfter)
    → granted.reply ≡ Granted g
    → (cond t granted waiting).reply ≡ Waiting
    → (cond t granted waiting).calls ≡ waiting.calls
not_granted true g granted waiting is waits = cc
not_granted false g granted waiting is waits = refl

module _ (s : Service) (mode : Mode) (opener f : ℕ) (waits : (step_of s (Open mode opener f)).reply ≡ Waiting) where
  abbrev x : Step
  x = Open mode opener f

  abbrev n : ℕ
  n = (sizes_of s).clients

  abbrev due : List ℕ
  due = calls_due n (entry_at s f) opener mode no_calls

  sends_due : (step_of s x).calls ≡ due
  sends_due =
      split (eqb (refusal_of s x) 0)
      (λ e. subst⁻¹ (λ (o : Outcome). o.reply ≡ Waiting → o.calls ≡ due) (accepted s x e)
      (not_granted (eqb (calls_for n (entry_at s f) opener mode) 0) (grant_of n (entry_at s f) opener mode) _ _ refl) waits)
      (λ e. subst⁻¹ (λ (o : Outcome). o.reply ≡ Waiting → o.calls ≡ due) (rejected s x e) (λ refusal. cc) waits)

  pub waiting_calls :
      (client kind : ℕ)
      → Member (client, kind) (ordered_calls (sizes_of s).clients (step_of s (Open mode opener f)).calls)
      ↔ (
      (client < (sizes_of s).clients)
      × (kind ≡ callback_due (sizes_of s).clients (record_at (entry_at s f)) (entry_at s f).last opener mode client)
      × (kind ≢ 0)
      )
  waiting_calls client kind =
      rw sends_due
      (due_in_order n (record_at (entry_at s f)) (entry_at s f).last opener mode no_calls
      (in_force_permitted s.sizes).clients client kind)

-- What is promised of every history: each kind of member keeps what holds all along. Assumes nothing.
use Prim.Native.Nat.{ℕ, ◌<◌}
use mathlib.Core.Path.{◌≡◌, sym, ap, ◌∙◌, subst, subst⁻¹}
use mathlib.Core.Bool.{true, false}
use mathlib.Core.List.{List, [], ◌∷◌}
use Rattle.sizes.proofs.Choosing.{split, conflict, when, unless}
use Rattle.sizes.specs.declared.sizes.Sizes.{Sizes}
use Rattle.protocol.specs.declared.step.Step.{Step}
use Rattle.protocol.specs.declared.step.Step.TheVariants.{Crash}
use Rattle.service.specs.declared.service.Server.{Server}
use Rattle.service.specs.declared.service.Service.{Service}
use Rattle.service.specs.Contents.{sizes_of}
use Rattle.service.specs.Step.{moved, step_of}
use Rattle.service.specs.Space.{spaced}
use Rattle.table.specs.TableStep.{table_step}
use Rattle.service.specs.Demand3.{after}
use Rattle.service.specs.Fresh.{fresh}
use Rattle.service.specs.NothingBehind.{after_steps}
use Rattle.batch.specs.declared.batch.BatchOutcome.{BatchOutcome}
use Rattle.batch.specs.Batch.{Opening, opens_of, list_too_long, batch_of}
use Rattle.batch.proofs.Trying.{too_long, not_too_long}
use Rattle.restore.specs.Reading.{is_image, reading_of}
use Rattle.restore.proofs.Exact.{not_refused, untouched}
use Rattle.history.specs.Event.{Event, step, batch, reading, move, served_by, refuses_image, next, steps_of, Unchanged, Whole, Premise}
use Rattle.history.specs.Past.{Past, no_past, past_after, past_all}
use Rattle.history.specs.Promises.{Member, AllKept, Premises, Histories}
use Rattle.history.proofs.Along.{Sound, sound_fresh, kept, step-sound, steps-sound}
use Rattle.history.proofs.Reading.{reading_is_crash}
use Rattle.history.proofs.Moving.{moved_is, taken_aside, taken_in, moved_stored, moved_reached}

-- bytes that are refused are no image
refused_is : (s : Service) (bytes : List ℕ) → refuses_image s bytes ≡ true → is_image (sizes_of s) bytes ≡ false
refused_is s bytes e = split (is_image (sizes_of s) bytes) (λ t. conflict e (not_refused s bytes t)) (λ t. t)

module _ (z : Sizes) (n : ℕ) (some : 0 < n) (s : Service) (p : Past) (h : Sound z s p) where
  -- a member that is these steps
  as_steps : (s' : Service) (xs ys : List Step) → s' ≡ after_steps s xs → ys ≡ xs → Sound z s' (past_all n s ys p)
  as_steps s' xs ys e f =
      subst⁻¹ (λ (l : List Step). Sound z s' (past_all n s l p)) f
      (subst⁻¹ (λ (t : Service). Sound z t (past_all n s xs p)) e (steps-sound z n some xs s p h))

  batch_sound : (i : ℕ) (l : List Opening) → Sound z (batch_of s i l).service (past_all n s (steps_of s (batch i l)) p)
  batch_sound i l =
      split (list_too_long l).0
      (λ e. as_steps _ [] _ (sym (ap (λ (o : BatchOutcome). o.service) (too_long s i l e))) (when _ _ e))
      (λ e. as_steps _ (opens_of i l) _ (sym (ap (λ (o : BatchOutcome). o.service) (not_too_long s i l e))) (unless _ _ e))

  reading_sound : (bytes : List ℕ) → Premise s (reading bytes)
      → Sound z (reading_of s bytes).service (past_all n s (steps_of s (reading bytes)) p)
  reading_sound bytes premise =
      split (refuses_image s bytes)
      (λ e. as_steps _ [] _ (untouched s bytes (refused_is s bytes e)) (when _ _ e))
      (λ e.
      as_steps _ (Crash ∷ []) _
      (reading_is_crash z s p.memory p.recovery h.reached h.stored bytes (premise e)) (unless _ _ e))

  -- the old server's clients, with the standby after its reading
  module _ (v : Server) (whole : Whole v) (bytes : List ℕ) (u : Unchanged s bytes) where
    abbrev crash : Sound z (after s Crash) (past_after n s Crash p)
    crash = step-sound z n some s p Crash h

    moved-sound : Sound z (reading_of (served_by v s) bytes).service (past_after n s Crash p)
    unfolding step_of moved spaced table_step
    moved-sound =
        subst⁻¹ (λ (t : Service). Sound z t (past_after n s Crash p))
        (moved_is z s p.memory p.recovery h.reached h.stored v whole bytes u)
        (record {
          reached = moved_reached z s p.memory p.recovery h.reached h.stored v whole bytes u;
          owed = λ i f here.
              h.owed i f (taken_in z s p.memory p.recovery h.reached h.stored v whole bytes u here);
          stored = moved_stored z s p.memory p.recovery h.reached h.stored v whole bytes u;
          agrees =
              record {
                sizes = h.agrees.sizes;
                ruled = crash.agrees.ruled;
                names = crash.agrees.names;
                losses = crash.agrees.losses;
                memory = crash.agrees.memory;
                copied = crash.agrees.copied;
                waiting = crash.agrees.waiting;
                held = crash.agrees.held;
                aside = λ i hi out.
                    crash.agrees.aside i hi
                    (sym (taken_aside z s p.memory p.recovery h.reached h.stored v whole bytes u i hi)
                    ∙ out);
              };
        })

  move_sound : (v : Server) (bytes : List ℕ) → Premise s (move v bytes)
      → Sound z (next s (move v bytes)) (past_all n s (steps_of s (move v bytes)) p)
  move_sound v bytes (whole, premise) =
      split (refuses_image (served_by v s) bytes)
      (λ e. as_steps _ [] _ (when _ _ e) (when _ _ e))
      (λ e.
      subst⁻¹ (λ (l : List Step). Sound z (next s (move v bytes)) (past_all n s l p)) (unless _ _ e)
      (subst⁻¹ (λ (t : Service). Sound z t (past_after n s Crash p)) (unless _ _ e) (moved-sound v whole bytes (premise e))))

  -- each kind of member
  pub event_sound : (e : Event) → Premise s e → Sound z (next s e) (past_all n s (steps_of s e) p)
  event_sound (step x) premise = step-sound z n some s p x h
  event_sound (batch i l) premise = batch_sound i l
  event_sound (reading bytes) premise = reading_sound bytes premise
  event_sound (move v bytes) premise = move_sound v bytes premise

all_kept : (z : Sizes) (s : Service) (p : Past) (history : List Member) → Sound z s p → Premises s history → AllKept s p history
all_kept z s p [] h premises = kept z s p h
all_kept z s p (e ∷ es) h (some, premise, premises) =
    (kept z s p h, all_kept z (next s e.event) _ es (event_sound z e.line some s p h e.event premise) premises)

pub histories : Histories
histories z history premises = all_kept z (fresh z) no_past history (sound_fresh z) premises

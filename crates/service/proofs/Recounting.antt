-- A step on all files that is done but for the store is done when the free places are recounted. Assumes nothing.
use Prim.Native.Nat.{ℕ, zero, suc}
use mathlib.Core.Path.{◌≡◌, refl, sym, ap, ap₂, ◌∙◌, subst⁻¹}
use mathlib.Core.Bool.{Bool, true, false, cond}
use mathlib.Core.List.{List}
use lib.Dec.{eqb}
use lib.ListN.{length, set, length-set}
use Rattle.sizes.specs.declared.sizes.Sizes.{Sizes}
use Rattle.sizes.specs.Sizes.{Permitted, in_force}
use Rattle.sizes.proofs.Choosing.{conflict}
use Rattle.decision.specs.Lists.{first_of}
use Rattle.protocol.specs.declared.step.Step.{Step}
use Rattle.protocol.specs.declared.step.Step.TheVariants.{Open, Close, Read, Write, Flush, Answer, Crash}
use Rattle.protocol.specs.declared.step.Step.TheVariants.{Report, End, Restart, Embargo, Lift}
use Rattle.protocol.specs.Reply.{is_refused}
use Rattle.protocol.specs.Step.{OnAll, is_on_all}
use Rattle.blocks.specs.declared.stores.Stores.{Stores}
use Rattle.words.specs.Rows.{table_rows, table_words}
use Rattle.words.specs.Said.{SaysIn}
use Rattle.service.specs.declared.service.Service.{Service}
use Rattle.service.specs.declared.outcome.Outcome.{Outcome}
use Rattle.service.specs.Contents.{sizes_of, with_space}
use Rattle.service.specs.Lent.{recovering_held, used_held, free_held, service_held}
use Rattle.service.specs.Space.{counted_in, takes_place, is_full, taken_in, used_after, recounted, free_after, spaced}
use Rattle.service.specs.Counted.{known_held}
use Rattle.service.specs.Embargo.{marked, forgotten_below, put_aside, grants_aside, dropped_below}
use Rattle.service.specs.Step.{moved, with_store, step_of}
use Rattle.service.specs.Served.{MovesAll, ServesAll}
use Rattle.service.proofs.Tests.{split}
use Rattle.service.proofs.Accepted.{tests_in, done_of, done_moved, refused_moved, answering_service, step_stored, moved_rests}
use Rattle.service.proofs.Storing.{all_kept, word_kept, free_set, space_service, counted_all_held, recounted_same, recount_rests}

-- ---- what a step on all files does but for the store

-- a service has the store of another
abbrev SameStore : Service → Service → Type 0
SameStore s s' = (s'.server.used ≡ s.server.used) × (s'.server.free ≡ s.server.free)

forgotten_store : (z : Sizes) (i k : ℕ) (s : Service) → SameStore s (forgotten_below z i k s)
unfolding forgotten_below
forgotten_store z i zero s = (refl, refl)
forgotten_store z i (suc k) s = forgotten_store z i k s

dropped_store : (z : Sizes) (i k : ℕ) (s : Service) → SameStore s (dropped_below z i k s)
unfolding dropped_below
dropped_store z i zero s = (refl, refl)
dropped_store z i (suc k) s = dropped_store z i k s

-- where what is done keeps the store, the step does
moved_store :
    (x : Step)
    → ((s : Service) → SameStore s (done_of (sizes_of s) s x).service)
    → (s : Service)
    → SameStore s (moved false false s x).service
moved_store x done s =
    split (eqb (first_of (tests_in false false (sizes_of s) s x)) 0)
    (λ e. subst⁻¹ (λ (o : Outcome). SameStore s o.service) (done_moved false false s x e) (done s))
    (λ e. subst⁻¹ (λ (o : Outcome). SameStore s o.service) (refused_moved false false s x e) (refl, refl))

-- ---- and with it

-- what there is to know of a step on all files
pub record Everywhere (x : Step) : Type 0 where
  pub leaves : (s : Service) → moved (takes_place s x) (is_full s) s x ≡ moved false false s x
  pub store : (s : Service) → SameStore s (moved false false s x).service
  pub used : (s : Service) → used_after s x ≡ s.server.used
  pub free :
      (s s' : Service)
      → free_after s x s' ≡ recounted (sizes_of s).store s.server.free (taken_in s OnAll) (taken_in s' OnAll)

restart_store : (i : ℕ) (s : Service) → SameStore s (done_of (sizes_of s) s (Restart i)).service
restart_store i s =
    let z : Sizes = sizes_of s in
    let (used, free) = forgotten_store z i z.files (marked s i) in
    let (used', free') = dropped_store z i z.files (put_aside z s i) in
    (used' ∙ used, free' ∙ free)

embargo_store : (i f : ℕ) (s : Service) → SameStore s (done_of (sizes_of s) s (Embargo i f)).service
embargo_store i f s =
    let z : Sizes = sizes_of s in
    subst⁻¹ (SameStore s) (answering_service (put_aside z s i) (grants_aside z s i))
    (forgotten_store z i z.files (marked s i))

lift_store : (i : ℕ) (s : Service) → SameStore s (done_of (sizes_of s) s (Lift i)).service
lift_store i s = let z : Sizes = sizes_of s in dropped_store z i z.files s

restart_everywhere : (i : ℕ) → Everywhere (Restart i)
unfolding moved
restart_everywhere i =
    record {
      leaves = λ s. refl;
      store = moved_store (Restart i) (restart_store i);
      used = λ s. refl;
      free = λ s s'. refl;
    }

embargo_everywhere : (i f : ℕ) → Everywhere (Embargo i f)
unfolding moved
embargo_everywhere i f =
    record {
      leaves = λ s. refl;
      store = moved_store (Embargo i f) (embargo_store i f);
      used = λ s. refl;
      free = λ s s'. refl;
    }

lift_everywhere : (i : ℕ) → Everywhere (Lift i)
unfolding moved
lift_everywhere i =
    record {
      leaves = λ s. refl;
      store = moved_store (Lift i) (lift_store i);
      used = λ s. refl;
      free = λ s s'. refl;
    }

pub everywhere : (x : Step) → is_on_all x ≡ true → Everywhere x
everywhere (Open m i f) on = conflict on refl
everywhere (Close m i f) on = conflict on refl
everywhere (Read i f b) on = conflict on refl
everywhere (Write i f b v) on = conflict on refl
everywhere (Flush i f b) on = conflict on refl
everywhere (Answer i f) on = conflict on refl
everywhere Crash on = conflict on refl
everywhere (Report i) on = conflict on refl
everywhere End on = conflict on refl
everywhere (Restart i) on = restart_everywhere i
everywhere (Embargo i f) on = embargo_everywhere i f
everywhere (Lift i) on = lift_everywhere i

-- the number of free places after it
abbrev free_in : Service → Bool → Service → ℕ
free_in s refusal s' =
    cond refusal s.server.free
    (recounted (sizes_of s).store s.server.free (taken_in s OnAll)
    (taken_in (with_space s' s.server.used s.server.free) OnAll))

all_spaced :
    (s : Service) (x : Step) (refusal : Bool) (s' : Service)
    → Everywhere x
    → spaced s x refusal s' ≡ with_space s' s.server.used (free_in s refusal s')
unfolding spaced
all_spaced s x true s' e = refl
all_spaced s x false s' e =
    ap (λ (used : List Bool). with_space s' used (free_after s x (with_space s' used s.server.free))) (e.used s)
    ∙ ap (with_space s' s.server.used) (e.free s (with_space s' s.server.used s.server.free))

-- ---- in the lent arrays

module _
    {sizes : Sizes}
    {x : Step}
    {t₀ : List ℕ}
    {flags₀ : List Bool}
    {a₀ : Stores}
    {words₀ t : List ℕ}
    {flags : List Bool}
    {a : Stores}
    {words : List ℕ}
    {said : ℕ}
    (most : Permitted sizes)
    (e : Everywhere x)
    (size : length t₀ ≡ table_words)
    (m : MovesAll sizes x t₀ flags₀ a₀ words₀ t flags a words said)
  where
    abbrev before : ℕ
    before = counted_in sizes (known_held (recovering_held flags₀) flags₀) (used_held flags₀) a₀.dirty

    abbrev after : ℕ
    after = counted_in sizes (known_held (recovering_held flags) flags) (used_held flags) a.dirty

    abbrev free : ℕ
    free = recounted sizes.store (free_held t) before after

    module _ (given : Sizes) (force : sizes ≡ in_force given) where
      abbrev came : Service
      came = service_held given t₀ flags₀ a₀

      abbrev left : Service
      left = service_held given t flags a

      abbrev done : Outcome
      done = moved false false came x

      stored : step_of came x ≡ with_store came x done
      stored = step_stored came x ∙ ap (with_store came x) (e.leaves came)

      same-reply : (step_of came x).reply ≡ done.reply
      same-reply = ap (λ (o : Outcome). o.reply) stored

      same_store : SameStore came left
      same_store = subst⁻¹ (SameStore came) (m.service given force) (e.store came)

      counted-before : before ≡ taken_in came OnAll
      counted-before = sym (counted_all_held most given force t₀ flags₀ a₀ (used_held flags₀) a₀.dirty)

      counted-after : after ≡ taken_in left OnAll
      counted-after = sym (counted_all_held most given force t flags a (used_held flags) a.dirty)

      -- a refusal leaves the number
      refused-counts : is_refused done.reply ≡ true → before ≡ after
      refused-counts r =
          counted-before
          ∙ ap (λ (s : Service). taken_in s OnAll) (sym (m.service given force ∙ moved_rests false false came x r))
          ∙ sym counted-after

      -- what is taken afterwards does not hang on the number
      taken-after : taken_in (with_space done.service came.server.used came.server.free) OnAll ≡ after
      taken-after =
          ap (λ (s : Service). taken_in (with_space s came.server.used came.server.free) OnAll) (sym (m.service given force))
          ∙ ap (λ (used : List Bool). taken_in (with_space left used came.server.free) OnAll) (sym same_store.0)
          ∙ sym counted-after

      same-free : (r : Bool) → is_refused done.reply ≡ r → free ≡ free_in came r done.service
      same-free true r =
          recounted_same sizes.store (free_held t) before after (refused-counts r) ∙ same_store.1
      same-free false r =
          ap (λ (z : Sizes). recounted z.store (free_held t) before after) force
          ∙ ap (λ n. recounted (in_force given).store n before after) same_store.1
          ∙ ap (λ n. recounted (in_force given).store (free_held t₀) n after) counted-before
          ∙ ap (λ n. recounted (in_force given).store (free_held t₀) (taken_in came OnAll) n) (sym taken-after)

      recounted-service : service_held given (set t table_rows free) flags a ≡ (step_of came x).service
      recounted-service =
          space_service given t (set t table_rows free) flags flags a (word_kept t flags flags free (all_kept t flags))
          ∙ ap (with_space left (used_held flags)) (free_set t free (m.long ∙ size))
          ∙ ap (λ (s : Service). with_space s (used_held flags) free) (m.service given force)
          ∙ ap (λ (used : List Bool). with_space done.service used free) same_store.0
          ∙ ap (λ n. with_space done.service (used_held flags₀) n) (same-free (is_refused done.reply) refl)
          ∙ sym (all_spaced came x (is_refused done.reply) done.service e)
          ∙ ap (λ (o : Outcome). o.service) (sym stored)

    pub recounted-serves :
        (n n' : ℕ) (t' : List ℕ)
        → n ≡ before
        → n' ≡ after
        → t' ≡ set t table_rows (recounted sizes.store (free_held t) n n')
        → ServesAll sizes x t₀ flags₀ a₀ words₀ t' flags a words said
    recounted-serves n n' t' same same' is =
        subst⁻¹ (λ (t' : List ℕ). ServesAll sizes x t₀ flags₀ a₀ words₀ t' flags a words said)
        (is ∙ ap₂ (λ m m'. set t table_rows (recounted sizes.store (free_held t) m m')) same same')
        (record {
          long = length-set t table_rows free ∙ m.long;
          flags_long = m.flags_long;
          service = recounted-service;
          says =
              λ given force.
              subst⁻¹ (λ (o : Outcome). SaysIn words₀ said words o.reply o.calls o.grants) (stored given force)
              (m.says given force);
          silent = λ given force. ap (λ (o : Outcome). o.calls) (stored given force) ∙ m.silent given force;
          refused =
              λ given force r.
              let r' = ap is_refused (sym (same-reply given force)) ∙ r in
              let (rows, flags') = m.refused given force r' in (
                recount_rests sizes.store t before after (refused-counts given force r') ∙ rows,
                flags',
              );
        })

-- The steps on the table, with the store: a crash frees what is not used, a report takes a place for each block that it
-- reserves, and the end of a recovery changes nothing, since every client was heard. Assumes nothing.
use Prim.Native.Nat.{ℕ, ◌+◌, ◌-◌, ◌<◌, ◌≤◌}
use mathlib.Core.Path.{◌≡◌, refl, sym, ap, ap₂, ◌∙◌, subst⁻¹}
use mathlib.Core.Bool.{Bool, true, false, not, ◌&&◌, ◌||◌}
use mathlib.Core.List.{List}
use native.Mathlib.Omega.{arith}
use lib.Dec.{eqb}
use lib.ListN.{length, get_or, set}
use lib.Seq.{get_or-take, get_or-set_same, get_or-set_other}
use borrow.Author.Tests.{eqb-true, eqb-false, not-false}
use Rattle.sizes.specs.declared.sizes.Sizes.{Sizes}
use Rattle.sizes.specs.Sizes.{max_clients, in_force, Permitted, place, cell}
use Rattle.sizes.proofs.Choosing.{split, conflict}
use Rattle.protocol.specs.declared.reply.Reply.{Reply}
use Rattle.protocol.specs.declared.step.Step.{Step}
use Rattle.protocol.specs.declared.step.Step.TheVariants.{Crash, Report, End}
use Rattle.protocol.specs.Reply.{is_refused}
use Rattle.blocks.specs.declared.stores.Stores.{Stores}
use Rattle.table.specs.TableStep.{is_heard, table_step}
use Rattle.words.specs.Rows.{table_rows, table_words}
use Rattle.service.specs.declared.service.Service.{Service}
use Rattle.service.specs.declared.outcome.Outcome.{Outcome}
use Rattle.service.specs.Contents.{sizes_of, with_space}
use Rattle.service.specs.Counted.{anew_on, anew_in}
use Rattle.service.specs.Lent.{lent_flags, recovering_held, reported_held, embargoed_held, used_held, free_held, service_held}
use Rattle.service.specs.Served.{Moves, Serves}
use Rattle.service.specs.Space.{dirty_among, is_counted, counted_on, counted_in, used_in, is_known, used_after, recounted}
use Rattle.service.specs.Space.{free_after}
use Rattle.service.specs.Step.{moved}
use Rattle.service.proofs.Lists.{count_none}
use Rattle.service.proofs.Counting.{any_cong, count_cong, count_or, sum_cong, sum_add, recounted_near}
use Rattle.service.proofs.LentFlags.{flag_embargoed, used_kept}
use Rattle.service.proofs.Storing.{forced, Keeping, all_kept, word_kept, free_set, Alike, did, free_stays}
use Rattle.service.proofs.Storing.{serves-refused, serves-done, knows, counted_all_by, counted_all_held, recounted_same}
use Rattle.service.proofs.FileStoring.{or_right, dirty_there}

-- ---- a step on the table

-- its recount is that of all files
abbrev Recounts : Step → Type 0
Recounts x =
    (s s' : Service)
    → free_after s x s'
    ≡ recounted (sizes_of s).store s.server.free
    (counted_in (sizes_of s) (is_known s) s.server.used s.dirty)
    (counted_in (sizes_of s') (is_known s') s'.server.used s'.dirty)

-- it leaves the used blocks
abbrev LeavesUsed : Step → Type 0
LeavesUsed x = (takes full : Bool) (s : Service) → (moved takes full s x).service.server.used ≡ s.server.used

module _
    {sizes : Sizes}
    {x : Step}
    {t₀ t : List ℕ}
    {flags₀ flags : List Bool}
    {a : Stores}
    {reply : Reply}
    {calls : List ℕ}
    (p : Permitted sizes)
    (m : Moves false false sizes x t₀ flags₀ a t flags a reply calls)
    (alike : Alike false false sizes x t₀ flags₀ a)
    (unused : (s : Service) → used_after s x ≡ s.server.used)
    (leaves : LeavesUsed x) where
  used_stays : used_held flags ≡ used_held flags₀
  used_stays =
      ap (λ (o : Outcome). o.service.server.used) (m.taken sizes (forced p))
      ∙ leaves false false (service_held sizes t₀ flags₀ a)

  counted :
      Recounts x
      → (t' : List ℕ)
      → is_refused reply ≡ false
      → Keeping t flags t' flags
      → free_held t'
      ≡ recounted sizes.store (free_held t₀)
      (counted_in sizes (knows flags₀) (used_held flags₀) a.dirty)
      (counted_in sizes (knows flags) (used_held flags) a.dirty)
      → Serves sizes x t₀ flags₀ a t' flags a reply calls
  counted recounts t' e k free =
      serves-done m alike t' flags e k
      (λ given force. used_stays ∙ sym (unused (service_held given t₀ flags₀ a)))
      (λ given force.
      let s = service_held given t₀ flags₀ a in
      let s' = with_space (service_held given t flags a) (used_held flags) (free_held t₀) in
      let c : ℕ = counted_in sizes (knows flags₀) (used_held flags₀) a.dirty in
      let c' : ℕ = counted_in sizes (knows flags) (used_held flags) a.dirty in
      free
      ∙ ap (λ (z : Sizes). recounted z.store (free_held t₀) c c') force
      ∙ ap₂ (λ (k k' : ℕ). recounted (in_force given).store (free_held t₀) k k')
      (sym (counted_all_held p given force t₀ flags₀ a (used_held flags₀) a.dirty))
      (sym (counted_all_held p given force t flags a (used_held flags) a.dirty))
      ∙ sym (recounts s s'))

-- ---- a crash

pub crash_serves :
    {sizes : Sizes} {t₀ t : List ℕ} {flags₀ flags : List Bool} {a : Stores} {reply : Reply} {calls : List ℕ}
    → Permitted sizes
    → length t₀ ≡ table_words
    → Moves false false sizes Crash t₀ flags₀ a t flags a reply calls
    → (n left : ℕ)
    → n ≡ used_in sizes (used_held flags)
    → left ≡ sizes.store - n
    → Serves sizes Crash t₀ flags₀ a (set t table_rows left) flags a reply calls
unfolding moved table_step
crash_serves {sizes} {t₀} {t} {flags₀} {flags} {a} p long m n left is less =
    let alike : Alike false false sizes Crash t₀ flags₀ a = λ given force. refl in
    let stays : used_held flags ≡ used_held flags₀ = used_stays p m alike (λ s. refl) (λ takes full s. refl) in
    serves-done m alike (set t table_rows left) flags
    (ap (λ (o : Outcome). is_refused o.reply) (m.taken sizes (forced p)))
    (word_kept t flags flags left (all_kept t flags))
    (λ given force. stays)
    (λ given force.
    free_set t left (m.long ∙ long)
    ∙ less
    ∙ ap (λ (k : ℕ). sizes.store - k) (is ∙ ap (used_in sizes) stays)
    ∙ ap (λ (z : Sizes). z.store - used_in z (used_held flags₀)) force)

-- ---- a report

-- one that is refused
pub report_refused :
    {sizes : Sizes} {i : ℕ} {t₀ t : List ℕ} {flags₀ flags : List Bool} {a : Stores} {reply : Reply} {calls : List ℕ}
    → Moves false false sizes (Report i) t₀ flags₀ a t flags a reply calls
    → is_refused reply ≡ true
    → Serves sizes (Report i) t₀ flags₀ a t flags a reply calls
unfolding moved
report_refused m e = serves-refused m (λ given force. refl) e

-- the server knows of the client from now on, and of the others as before
module _
    (flags : List Bool)
    (i : ℕ)
    (size : length flags ≡ lent_flags)
    (below : i < max_clients)
    (out : get_or flags (max_clients + 1 + i) false ≡ false) where
  known_now : knows (set flags i true) i ≡ true
  known_now =
      let away : get_or (set flags i true) (max_clients + 1 + i) false ≡ false =
      get_or-set_other flags i (max_clients + 1 + i) true false (λ e. omega (arith, e)) ∙ out in
      let told : get_or (set flags i true) i false ≡ true = get_or-set_same flags i true false (omega (arith, below, size)) in
      rw (away, told) (or_true (not (recovering_held (set flags i true))))
    where
      or_true : (x : Bool) → (x || true) ≡ true
      or_true true = refl
      or_true false = refl

  known_else : (j : ℕ) → j < max_clients → (j ≡ i → ⊥) → knows (set flags i true) j ≡ knows flags j
  known_else j h off =
      let away = get_or-set_other flags i (max_clients + 1 + j) true false (λ e. omega (arith, below, e)) in
      let mode = get_or-set_other flags i max_clients true false (λ e. omega (arith, below, e)) in
      let told = get_or-set_other flags i j true false off in
      rw (away, mode, told)

  module _ (n : ℕ) (few : n ≤ max_clients) (client : i < n) (used dirty : List Bool) (f b : ℕ) where
    dirty-anew :
        dirty_among n (knows (set flags i true)) dirty f b ≡ (dirty_among n (knows flags) dirty f b || get_or dirty (cell i f b) false)
    dirty-anew =
        split (get_or dirty (cell i f b) false)
        (λ d.
        dirty_there n (knows (set flags i true)) dirty i f b client known_now d
        ∙ sym (or_right (dirty_among n (knows flags) dirty f b) (get_or dirty (cell i f b) false) d))
        (λ d.
        any_cong n (λ j. knows (set flags i true) j && get_or dirty (cell j f b) false)
        (λ j. knows flags j && get_or dirty (cell j f b) false)
        (λ j h.
        split (eqb j i)
        (λ e.
        let none : get_or dirty (cell j f b) false ≡ false =
        ap (λ (k : ℕ). get_or dirty (cell k f b) false) (eqb-true j i e) ∙ d in
        ap (λ (x : Bool). knows (set flags i true) j && x) none
        ∙ and_false (knows (set flags i true) j)
        ∙ sym (ap (λ (x : Bool). knows flags j && x) none ∙ and_false (knows flags j)))
        (λ e.
        ap (λ (w : Bool). w && get_or dirty (cell j f b) false)
        (known_else j (omega (arith, h, few)) (eqb-false j i e))))
        ∙ sym (ap (λ (x : Bool). dirty_among n (knows flags) dirty f b || x) d ∙ or-false (dirty_among n (knows flags) dirty f b)))
      where
        and_false : (x : Bool) → (x && false) ≡ false
        and_false true = refl
        and_false false = refl

        or-false : (x : Bool) → (x || false) ≡ x
        or-false true = refl
        or-false false = refl

    counted-anew :
        is_counted n (knows (set flags i true)) used dirty f b
        ≡ (is_counted n (knows flags) used dirty f b || get_or dirty (cell i f b) false)
    counted-anew =
        ap (λ (d : Bool). get_or used (place f b) false || d) dirty-anew
        ∙ or_assoc (get_or used (place f b) false) (dirty_among n (knows flags) dirty f b) (get_or dirty (cell i f b) false)
      where
        or_assoc : (x y z : Bool) → (x || (y || z)) ≡ ((x || y) || z)
        or_assoc true y z = refl
        or_assoc false y z = refl

  module _ (z : Sizes) (p : Permitted z) (client : i < z.clients) (dirty : List Bool) where
    anew-on :
        (f : ℕ)
        → counted_on z (knows (set flags i true)) (used_held flags) dirty f
        ≡ counted_on z (knows flags) (used_held flags) dirty f + anew_on z i flags dirty f
    anew-on f =
        count_cong z.blocks (is_counted z.clients (knows (set flags i true)) (used_held flags) dirty f)
        (λ b. is_counted z.clients (knows flags) (used_held flags) dirty f b || get_or dirty (cell i f b) false)
        (λ b h. counted-anew z.clients p.clients client (used_held flags) dirty f b)
        ∙ count_or z.blocks (is_counted z.clients (knows flags) (used_held flags) dirty f)
        (λ b. get_or dirty (cell i f b) false)

    pub anew-in :
        counted_in z (knows (set flags i true)) (used_held flags) dirty
        ≡ counted_in z (knows flags) (used_held flags) dirty + anew_in z i flags dirty
    anew-in =
        sum_cong z.files (counted_on z (knows (set flags i true)) (used_held flags) dirty)
        (λ f. counted_on z (knows flags) (used_held flags) dirty f + anew_on z i flags dirty f)
        (λ f h. anew-on f)
        ∙ sum_add z.files (counted_on z (knows flags) (used_held flags) dirty) (anew_on z i flags dirty)

pub report_serves :
    {sizes : Sizes} {i : ℕ} {t₀ t : List ℕ} {flags : List Bool} {a : Stores} {reply : Reply} {calls : List ℕ}
    → Permitted sizes
    → length t₀ ≡ table_words
    → length flags ≡ lent_flags
    → i < sizes.clients
    → get_or flags (max_clients + 1 + i) false ≡ false
    → is_refused reply ≡ false
    → Moves false false sizes (Report i) t₀ flags a t (set flags i true) a reply calls
    → (n : ℕ) (t' : List ℕ)
    → n ≡ anew_in sizes i flags a.dirty
    → t' ≡ set t table_rows (recounted sizes.store (free_held t) 0 n)
    → Serves sizes (Report i) t₀ flags a t' (set flags i true) a reply calls
unfolding moved
report_serves {sizes} {i} {t₀} {t} {flags} {a} {reply} {calls} p long size client out e m n t' is put =
    let below : i < max_clients = omega (arith, client, p.clients) in
    let alike : Alike false false sizes (Report i) t₀ flags a = λ given force. refl in
    let v : ℕ = recounted sizes.store (free_held t) 0 n in
    let T : ℕ = counted_in sizes (knows flags) (used_held flags) a.dirty in
    let T' : ℕ = counted_in sizes (knows (set flags i true)) (used_held (set flags i true)) a.dirty in
    let more : T' ≡ T + n =
    ap (λ (u : List Bool). counted_in sizes (knows (set flags i true)) u a.dirty) (used_kept flags i true (omega (arith, below)))
    ∙ anew-in flags i size below out sizes p client a.dirty
    ∙ ap (λ (k : ℕ). T + k) (sym is) in
    subst⁻¹ (λ (w : List ℕ). Serves sizes (Report i) t₀ flags a w (set flags i true) a reply calls) put
    (counted p m alike (λ s. refl) (λ takes full s. refl) (λ s s'. refl) (set t table_rows v) e
    (word_kept t (set flags i true) (set flags i true) v (all_kept t (set flags i true)))
    (free_set t v (m.long ∙ long)
    ∙ ap (λ (k : ℕ). recounted sizes.store k 0 n) (free_stays m p (λ takes full s. refl))
    ∙ recounted_near sizes.store (free_held t₀) 0 n T T' (omega (arith, more))))

-- ---- the end of a recovery

-- a client that was heard is known before and after
heard_known : (e r x : Bool) → (r || e) ≡ true → (not e && (not true || r)) ≡ (not e && (not false || x))
heard_known true r x h = refl
heard_known false true x h = refl
heard_known false false x h = conflict h refl

module _
    {sizes : Sizes}
    {t : List ℕ}
    {flags₀ flags : List Bool}
    {a : Stores}
    {reply : Reply}
    {calls : List ℕ}
    (p : Permitted sizes)
    (m : Moves false false sizes End t flags₀ a t flags a reply calls) where
  known_same : is_refused reply ≡ false → (i : ℕ) → i < sizes.clients → knows flags₀ i ≡ knows flags i
  known_same e i h =
      let (tests, done, same) = did m p e in
      let below : i < max_clients = omega (arith, h, p.clients) in
      let recovers : recovering_held flags₀ ≡ true = not-false (recovering_held flags₀) tests.0 in
      let runs : recovering_held flags ≡ false = ap (λ (s : Service). s.server.table.recovering) done in
      let embargoes : embargoed_held flags ≡ embargoed_held flags₀ = ap (λ (s : Service). s.server.table.embargoed) done in
      let heard : is_heard (reported_held flags₀) (embargoed_held flags₀) i ≡ true =
      not-false (is_heard (reported_held flags₀) (embargoed_held flags₀) i)
      (count_none sizes.clients (λ j. not (is_heard (reported_held flags₀) (embargoed_held flags₀) j)) tests.1.0 i h) in
      let away : get_or flags (max_clients + 1 + i) false ≡ get_or flags₀ (max_clients + 1 + i) false =
      sym (flag_embargoed flags i below)
      ∙ ap (λ (l : List Bool). get_or l i false) embargoes
      ∙ flag_embargoed flags₀ i below in
      let told : (get_or flags₀ i false || get_or flags₀ (max_clients + 1 + i) false) ≡ true =
      ap₂ (λ (x y : Bool). x || y) (sym (get_or-take max_clients flags₀ i false below)) (sym (flag_embargoed flags₀ i below))
      ∙ heard in
      ap (λ (r : Bool). not (get_or flags₀ (max_clients + 1 + i) false) && (not r || get_or flags₀ i false)) recovers
      ∙ heard_known (get_or flags₀ (max_clients + 1 + i) false) (get_or flags₀ i false) (get_or flags i false) told
      ∙ ap₂ (λ (x r : Bool). not x && (not r || get_or flags i false)) (sym away) (sym runs)

  pub end_serves : Serves sizes End t flags₀ a t flags a reply calls
  unfolding moved
  end_serves =
      let alike : Alike false false sizes End t flags₀ a = λ given force. refl in
      split (is_refused reply)
      (λ e. serves-refused m alike e)
      (λ e.
      let stays : used_held flags ≡ used_held flags₀ = used_stays p m alike (λ s. refl) (λ takes full s. refl) in
      counted p m alike (λ s. refl) (λ takes full s. refl) (λ s s'. refl) t e (all_kept t flags)
      (sym (recounted_same sizes.store (free_held t)
      (counted_in sizes (knows flags₀) (used_held flags₀) a.dirty)
      (counted_in sizes (knows flags) (used_held flags) a.dirty)
      (counted_all_by sizes (knows flags₀) (knows flags) (used_held flags₀) a.dirty (known_same e)
      ∙ ap (λ (u : List Bool). counted_in sizes (knows flags) u a.dirty) (sym stays)))))

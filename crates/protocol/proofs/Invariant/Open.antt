-- An open: it waits for the callbacks that are due, or is granted where there are none; and a waiting open is granted
-- once no callback is out. It leads to the promises waitsFor, opens and answers_last. Assumes nothing.
use Prim.Native.Nat.{ℕ, ◌<◌, ◌≤◌}
use mathlib.Core.Path.{◌≡◌, refl, sym, ◌∙◌, ap, subst, fun_ext}
use mathlib.Core.Bool.{true, false, cond, not, ◌&&◌}
use mathlib.Core.List.{List}
use native.Mathlib.Nat.{le_refl}
use native.Mathlib.Omega.{arith}
use lib.Dec.{eqb, ltb}
use lib.ListN.{length, get_or, get_or-eq_default}
use borrow.Author.Tests.{eqb-true, ltb-true, ltb-false}
use Rattle.records.specs.declared.record.Mode.{Mode}
use Rattle.records.specs.declared.version.Version.{Version}
use Rattle.protocol.specs.declared.client.ClientFile.{ClientFile}
use Rattle.protocol.specs.declared.entry.Entry.{Entry}
use Rattle.sizes.specs.Sizes.{nobody}
use Rattle.decision.specs.Lists.{count}
use Rattle.records.specs.Version.{is_last_version}
use Rattle.records.specs.Record.{is_write}
use Rattle.decision.specs.Callback.{callback_due}
use Rattle.protocol.specs.Book.{History, came}
use Rattle.protocol.specs.Entry.{record_at, waits, kind_of, call_to, calls_out, calls_for, calls_due}
use Rattle.decision.proofs.Counting.{count_agree}
use Rattle.decision.proofs.Storing.{length_stored}
use Rattle.decision.proofs.CallOrder.{kind_due}
use Rattle.protocol.proofs.View.{View, waiting_view, granted_view, call_answered_view, waiter_granted_view, Backs}
use Rattle.protocol.proofs.Invariant.{Waiting, Running}
use Rattle.protocol.proofs.Invariant.Flags.{split, cases}
use Rattle.protocol.proofs.Invariant.Count.{some}
use Rattle.protocol.proofs.Invariant.Due.{waiting-due}
use Rattle.protocol.proofs.Invariant.Kind.{same_sends, same_drops}
use Rattle.protocol.proofs.Invariant.Grant.{Ready, ready}
use Rattle.protocol.proofs.Invariant.Granting.{grant-kept, grant-backs}
use Rattle.protocol.proofs.Invariant.Answer.{answer_kept, called_waits, answer_backs, backs_then}

-- where a count of numbers other than 0 is 0, each is 0
silent :
    (n : ℕ) (f : ℕ → ℕ)
    → eqb (count n (λ i. not (eqb (f i) 0))) 0 ≡ true
    → ((t : ℕ) → n ≤ t → f t ≡ 0)
    → (t : ℕ)
    → f t ≡ 0
silent n f none out t =
    split (ltb t n)
    (λ below. split (eqb (f t) 0) (λ e. eqb-true (f t) 0 e)
    (λ e. let more = some n (λ i. not (eqb (f i) 0)) t (ltb-true t n below) (rw e) in
    let zero = eqb-true (count n (λ i. not (eqb (f i) 0))) 0 none in
    absurd (omega arith)))
    (λ is. out t (ltb-false t n is))

-- a list of one callback for each client calls nobody else
beyond : (n : ℕ) (calls : List ℕ) → length calls ≡ n → (t : ℕ) → n ≤ t → get_or calls t 0 ≡ 0
beyond n calls size t out = get_or-eq_default calls 0 (subst (λ m. m ≤ t) (sym size) out)

uncalled : (n : ℕ) (e : Entry) → length e.calls ≡ n → (t : ℕ) → n ≤ t → call_to n e t ≡ 0
uncalled n e size t out =
    ap (λ x. cond (waits n e) (kind_of x) 0) (beyond n e.calls size t out)
    ∙ cases (λ b. cond {A = ℕ} b 0 0 ≡ 0) (waits n e) (λ _. refl) (λ _. refl)

-- WS holds of the kinds where it holds of the numbers
waiting_kinds :
    {version : Version} {client : ℕ → ClientFile} {opener : ℕ} {mode : Mode} {calls : ℕ → ℕ}
    → Waiting version client opener mode calls
    → Waiting version client opener mode (λ t. kind_of (calls t))
waiting_kinds {calls = calls} h =
    record {
      uncalled = ap kind_of h.uncalled;
      marked = λ t e m. same_sends (calls t) ∙ h.marked t e m;
      writing = λ t e p w. ap kind_of (h.writing t e p w);
      caching = λ t e w p. same_drops (calls t) ∙ h.caching t e w p;
      alone = λ s t w. h.alone s t (sym (same_sends (calls t)) ∙ w);
      version_left = h.version_left;
    }

-- Client i opens in the mode, and there is a version left.
module _
    (n : ℕ)
    (v : View)
    (k : History)
    (i : ℕ)
    (mode : Mode)
    (h : Running n v k)
    (below : i < n)
    (left : (is_write mode && is_last_version v.entry.version) ≡ false)
  where
    abbrev due : List ℕ
    due = calls_due n v.entry i mode v.entry.calls

    due-size : length due ≡ n
    due-size = length_stored n (λ j. j) _ v.entry.calls ∙ h.calls

    -- the callback that a client finds is the one that it is due
    found : (t : ℕ) → t < n → get_or due t 0 ≡ callback_due n (record_at v.entry) v.entry.last i mode t
    found = kind_due n (record_at v.entry) v.entry.last i mode v.entry.calls (rw h.calls (le_refl n))

    due-at : (t : ℕ) → t < n → get_or due t 0 ≡ callback_due n (λ s. (v.client s).opens) v.entry.last i mode t
    due-at t is =
        found t is
        ∙ ap (λ r. callback_due n r v.entry.last i mode t) (fun_ext (λ s. h.table.known s refl))

    due-waiting : Waiting v.entry.version v.client i mode (λ t. get_or due t 0)
    due-waiting =
        waiting-due h.sound.clients h.table i mode (λ t. get_or due t 0) left below due-at (beyond n due due-size)

    pub wait-kept : Running n (waiting_view n v i mode) k
    wait-kept =
        record {
          sound = h.sound;
          booked = h.booked;
          table = h.table;
          calls = due-size;
          waiting = λ is. subst (Waiting v.entry.version v.client i mode)
              (fun_ext (λ t. ap (λ b. cond b (kind_of (get_or due t 0)) 0) (sym is))) (waiting_kinds due-waiting);
        }

    calls_found : count n (λ t. not (eqb (get_or due t 0) 0)) ≡ calls_for n v.entry i mode
    calls_found = count_agree n _ _ (λ t is. ap (λ x. not (eqb x 0)) (found t is))

    module _ (quiet : eqb (calls_for n v.entry i mode) 0 ≡ true) where
      free : Ready v.client i mode
      free =
          ready due-waiting
          (silent n (λ t. get_or due t 0) (ap (λ x. eqb x 0) calls_found ∙ quiet) (beyond n due due-size))

      pub open_kept : n ≤ nobody → Running n (granted_view n v i mode) k
      open_kept bound = grant-kept n v k i mode h left free bound below

      pub open-backs : Backs v (granted_view n v i mode)
      open-backs = grant-backs n v k i mode h left free

-- The waiting open is granted where no callback is out.
module _
    (n : ℕ)
    (v : View)
    (k : History)
    (h : Running n v k)
    (is : waits n v.entry ≡ true)
    (quiet : eqb (calls_out n v.entry) 0 ≡ true)
  where
    ws : Waiting v.entry.version v.client v.entry.waiter v.entry.mode (call_to n v.entry)
    ws = h.waiting is

    free-now : Ready v.client v.entry.waiter v.entry.mode
    free-now = ready ws (silent n (call_to n v.entry) quiet (uncalled n v.entry h.calls))

    pub waiter-kept : n ≤ nobody → Running n (waiter_granted_view n v) k
    waiter-kept bound =
        grant-kept n v k v.entry.waiter v.entry.mode h ws.version_left free-now bound (ltb-true v.entry.waiter n is)

    pub waiter-backs : Backs v (waiter_granted_view n v)
    waiter-backs = grant-backs n v k v.entry.waiter v.entry.mode h ws.version_left free-now

-- The last answer does so.
module _
    (n : ℕ)
    (v : View)
    (k : History)
    (i : ℕ)
    (bound : n ≤ nobody)
    (h : Running n v k)
    (below : i < n)
    (called : eqb (call_to n v.entry i) 0 ≡ false)
    (quiet : eqb (calls_out n (call_answered_view n v i).entry) 0 ≡ true)
  where
    abbrev later : View
    later = call_answered_view n v i

    waits-on : waits n v.entry ≡ true
    waits-on = called_waits n v.entry i called

    answered : Running n later (came i k)
    answered = answer_kept n v k i bound h below called

    pub answer-last-kept : (v.entry.waiter < n) × Running n (waiter_granted_view n later) (came i k)
    answer-last-kept =
        (ltb-true v.entry.waiter n waits-on, waiter-kept n later (came i k) answered waits-on quiet bound)

    pub answer-last-backs : Backs v (waiter_granted_view n later)
    answer-last-backs =
        backs_then v later (waiter_granted_view n later) (answer_backs n v k i h called)
        (waiter-backs n later (came i k) answered waits-on quiet)

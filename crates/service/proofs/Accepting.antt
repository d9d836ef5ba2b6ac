-- What the server has accepted of the clients on one file, in a recovery: a crash accepts nothing, and one more client that
-- does not clash leaves all that is accepted in agreement. It leads to the promise of every recovery. Assumes nothing.
use Prim.Native.Nat.{ℕ, ◌<◌, ◌≤◌}
use mathlib.Core.Path.{◌≡◌, refl, sym, ap, ap₂, ◌∙◌, subst, subst⁻¹}
use mathlib.Core.Bool.{Bool, true, false, cond, not, ◌&&◌, ◌||◌, or_comm}
use native.Mathlib.Omega.{arith}
use lib.Dec.{eqb, ltb}
use lib.ListN.{length, get_or, length-set}
use lib.Seq.{get_or-set_same, get_or-set_other}
use borrow.Author.Tests.{eqb-true, eqb-false, eq-eqb, ne_eqb, le-ltb, ltb-false}
use Rattle.sizes.specs.Sizes.{nobody}
use Rattle.sizes.proofs.Choosing.{split, conflict}
use Rattle.records.specs.declared.record.ClientRecord.{ClientRecord}
use Rattle.records.specs.Record.{not_open}
use Rattle.records.specs.Version.{no_version}
use Rattle.decision.proofs.Storing.{length_stored, get_d_stored}
use Rattle.decision.proofs.Finding.{none_found}
use Rattle.protocol.specs.declared.client.ClientFile.{ClientFile}
use Rattle.protocol.specs.declared.entry.Entry.{Entry}
use Rattle.protocol.specs.Client.{no_client}
use Rattle.protocol.specs.Entry.{waits, kind_of, call_to, crashed_entry, reported_entry, forgotten_entry}
use Rattle.protocol.specs.Clash.{has_open, may_cache, has_writers, misplaces_mark, caches_unopened, marks_beside, writes_beside}
use Rattle.protocol.specs.Clash.{breaks, clash, says_anything, accepted_of, clashes_with, clashes_on, Agree}
use Rattle.protocol.proofs.View.{at}
use Rattle.protocol.proofs.Invariant.Flags.{is_false, or_left, or_right, other_sym, and_both, at_other}

-- two clients clash from either side
pub clash_sym : (c d : ClientFile) → clash c d ≡ clash d c
clash_sym c d = or_comm (breaks c d) (breaks d c)

-- there is a record for each client, no open waits, nothing is accepted of those that have not reported, and what is
-- accepted agrees
pub record Accepting (n : ℕ) (accepted : ℕ → Bool) (e : Entry) : Type 0 where
  pub room : n ≤ length e.records
  pub quiet : waits n e ≡ false
  pub unheard : (j : ℕ) → j < n → accepted j ≡ false → accepted_of e j ≡ no_client
  pub agree : Agree n accepted e

-- what is said, by its two parts
said : {r r' : ClientRecord} {m m' : Bool}
    → r ≡ r'
    → m ≡ m'
    → ◌≡◌ {A = ClientFile} (record { opens = r; marked = m; label = no_version }) (record { opens = r'; marked = m'; label = no_version })
said p q = rw (p, q)

-- ---- a crash

pub crash_accepts :
    (n : ℕ) (accepted : ℕ → Bool) (e : Entry)
    → n ≤ nobody
    → n ≤ length e.records
    → ((j : ℕ) → j < n → accepted j ≡ false)
    → Accepting n accepted (crashed_entry n e)
crash_accepts n accepted e bound room none =
    record {
      room = rw (length_stored n (λ i. i) (λ i. not_open) e.records) room;
      quiet = le-ltb nobody n bound;
      unheard =
          λ j below _.
          said
          (get_d_stored n (λ i. i) (λ i. not_open) e.records not_open j below (omega (arith, below, room)) (λ i above _. omega arith))
          (ne_eqb nobody j (λ e. omega (arith, below, bound, e)));
      agree =
          record {
            alone = λ j below a. conflict a (none j below);
            apart = λ j k below _ a. conflict a (none j below);
          };
    }

-- ---- one more client is heard, and says this

module _
    {n : ℕ}
    {accepted : ℕ → Bool}
    {e : Entry}
    (h : Accepting n accepted e)
    (i : ℕ)
    (own : ClientFile)
    (e' : Entry)
    (room : n ≤ length e'.records)
    (quiet : waits n e' ≡ false)
    (here : (d : ClientFile) → clash (accepted_of e' i) d ≡ clash own d)
    (others : (j : ℕ) → j < n → eqb j i ≡ false → accepted_of e' j ≡ accepted_of e j)
    (alone : clash own no_client ≡ false)
    (apart : (j : ℕ) → j < n → accepted j ≡ true → clash own (accepted_of e j) ≡ false) where
  before : (b : Bool) (j : ℕ) → eqb j i ≡ false → at i true accepted j ≡ b → accepted j ≡ b
  before b j away a = sym (at_other i j true accepted away) ∙ a

  not_here : (j : ℕ) → at i true accepted j ≡ false → eqb j i ≡ false
  not_here j a =
      split (eqb j i)
      (λ same. conflict (ap (λ (b : Bool). cond b true (accepted j)) same) a)
      (λ away. away)

  with_own : (k : ℕ) → k < n → eqb k i ≡ false → accepted k ≡ true → clash (accepted_of e' i) (accepted_of e' k) ≡ false
  with_own k low away a = here (accepted_of e' k) ∙ ap (λ (d : ClientFile). clash own d) (others k low away) ∙ apart k low a

  pub heard_accepts : Accepting n (at i true accepted) e'
  heard_accepts =
      record {
        room = room;
        quiet = quiet;
        unheard = λ j low a. let away = not_here j a in others j low away ∙ h.unheard j low (before false j away a);
        agree =
            record {
              alone =
                  λ j low a.
                  split (eqb j i)
                  (λ same. subst⁻¹ (λ k. clash (accepted_of e' k) no_client ≡ false) (eqb-true j i same) (here no_client ∙ alone))
                  (λ away.
                  subst⁻¹ (λ (c : ClientFile). clash c no_client ≡ false) (others j low away)
                  (h.agree.alone j low (before true j away a)));
              apart =
                  λ j k lowj lowk a b off.
                  split (eqb j i)
                  (λ same.
                  let away : eqb k i ≡ false = subst (λ s. eqb k s ≡ false) (eqb-true j i same) off in
                  subst⁻¹ (λ s. clash (accepted_of e' s) (accepted_of e' k) ≡ false) (eqb-true j i same)
                  (with_own k lowk away (before true k away b)))
                  (λ away.
                  split (eqb k i)
                  (λ same.
                  subst⁻¹ (λ s. clash (accepted_of e' j) (accepted_of e' s) ≡ false) (eqb-true k i same)
                  (clash_sym (accepted_of e' j) (accepted_of e' i) ∙ with_own j lowj away (before true j away a)))
                  (λ far.
                  ap₂ clash (others j lowj away) (others k lowk far)
                  ∙ h.agree.apart j k lowj lowk (before true j away a) (before true k far b) off));
            };
      }

-- ---- a report that does not clash

-- a client that says nothing breaks nothing, as one that is not there
silent : (c d : ClientFile) → says_anything c ≡ false → clash c d ≡ clash no_client d
silent c d e =
    let first : (has_open c || may_cache c) ≡ false = or-first (has_open c || may_cache c) c.marked e in
    let marks : c.marked ≡ false = or-second (has_open c || may_cache c) c.marked e in
    let opens : has_open c ≡ false = or-first (has_open c) (may_cache c) first in
    let caches : may_cache c ≡ false = or-second (has_open c) (may_cache c) first in
    let writes : has_writers c ≡ false = or-second (ltb 0 c.opens.readers) (has_writers c) opens in
    by_parts (has_open c) (may_cache c) c.marked (has_writers c) opens caches marks writes
  where
    or-first : (a b : Bool) → (a || b) ≡ false → a ≡ false
    or-first true b e = conflict refl e
    or-first false b e = refl

    or-second : (a b : Bool) → (a || b) ≡ false → b ≡ false
    or-second true b e = conflict refl e
    or-second false b e = e

    by_parts : (o p m w : Bool)
        → o ≡ false
        → p ≡ false
        → m ≡ false
        → w ≡ false
        → (((p && not o) || (m && (w || (o && not p))) || (m && (has_open d || d.marked)) || (w && may_cache d))
        || (caches_unopened d || misplaces_mark d || (d.marked && (o || m)) || (has_writers d && p)))
        ≡ clash no_client d
    by_parts o p m w a b c e = rw (a, b, c, e)

module _ {n : ℕ} {accepted : ℕ → Bool} {e : Entry} (h : Accepting n accepted e) (own : ClientFile) (clear : clashes_on n accepted e own ≡ false) where
  says : says_anything own ≡ true → (clash own no_client ≡ false) × (ltb (clashes_with n accepted e own) n ≡ false)
  says s = neither (clash own no_client) (ltb (clashes_with n accepted e own) n) (sym (ap (λ (b : Bool). b && (clash own no_client || ltb (clashes_with n accepted e own) n)) s) ∙ clear)
    where
      neither : (a b : Bool) → (a || b) ≡ false → (a ≡ false) × (b ≡ false)
      neither true b e = conflict refl e
      neither false b e = (refl, e)

  own_alone : clash own no_client ≡ false
  own_alone = split (says_anything own) (λ s. (says s).0) (λ s. silent own no_client s)

  own_apart : (j : ℕ) → j < n → accepted j ≡ true → clash own (accepted_of e j) ≡ false
  own_apart j low a =
      split (says_anything own)
      (λ s.
      sym (ap (λ (b : Bool). b && clash own (accepted_of e j)) a)
      ∙ none_found n (λ k. accepted k && clash own (accepted_of e k)) (says s).1 j low)
      (λ s. silent own (accepted_of e j) s ∙ clash_sym no_client (accepted_of e j) ∙ h.agree.alone j low a)

  -- where it is marked, no other client is last writer
  no_other : (j : ℕ) → j < n → own.marked ≡ true → eqb e.last j ≡ false
  no_other j low m =
      split (accepted j)
      (λ a.
      is_false (eqb e.last j)
      (λ is.
      let both : marks_beside own (accepted_of e j) ≡ true =
      and_both m (or_right (has_open (accepted_of e j)) is) in
      let broken : breaks own (accepted_of e j) ≡ true =
      or_left (writes_beside own (accepted_of e j)) (or_right (caches_unopened own || misplaces_mark own) both) in
      conflict (or_left (breaks (accepted_of e j) own) broken) (own_apart j low a)))
      (λ a. ap (λ (c : ClientFile). c.marked) (h.unheard j low a))

  module _ (i : ℕ) (below : i < n) (new : accepted i ≡ false) where
    last-own : eqb (cond own.marked i e.last) i ≡ own.marked
    last-own =
        split own.marked
        (λ m. rw m (eq-eqb i i refl))
        (λ m. rw m (ap (λ (c : ClientFile). c.marked) (h.unheard i below new)))

    last-other : (j : ℕ) → j < n → eqb j i ≡ false → eqb (cond own.marked i e.last) j ≡ eqb e.last j
    last-other j low away =
        split own.marked
        (λ m. rw m (other_sym i j away ∙ sym (no_other j low m)))
        (λ m. rw m)

    pub report-accepts : Accepting n (at i true accepted) (reported_entry e i own)
    report-accepts =
        let fits : i < length e.records = omega (arith, below, h.room) in
        heard_accepts h i own (reported_entry e i own)
        (rw (length-set e.records i own.opens) h.room)
        h.quiet
        (λ d.
        ap (λ (c : ClientFile). clash c d) (said (get_or-set_same e.records i own.opens not_open fits) last-own)
        ∙ unlabelled own d)
        (λ j low away. said (get_or-set_other e.records i j own.opens not_open (eqb-false j i away)) (last-other j low away))
        own_alone
        own_apart
      where
        unlabelled : (c d : ClientFile) → clash (record { opens = c.opens; marked = c.marked; label = no_version }) d ≡ clash c d
        unlabelled c d = refl

-- ---- nothing is accepted of a client: it is told, or forgotten

module _ {n : ℕ} {accepted : ℕ → Bool} {e : Entry} (h : Accepting n accepted e) (i : ℕ) (below : i < n) where
  nothing_apart : (j : ℕ) → j < n → accepted j ≡ true → clash no_client (accepted_of e j) ≡ false
  nothing_apart j low a = clash_sym no_client (accepted_of e j) ∙ h.agree.alone j low a

  pub nothing_accepts : accepted_of e i ≡ no_client → Accepting n (at i true accepted) e
  nothing_accepts nothing =
      heard_accepts h i no_client e h.room h.quiet (λ d. ap (λ (c : ClientFile). clash c d) nothing) (λ j low away. refl)
      refl nothing_apart

  -- no open of it waits, so that no call goes with it
  not_waiting_lem : eqb e.waiter i ≡ false
  not_waiting_lem = ne_eqb e.waiter i (λ is. omega (arith, below, is, ltb-false e.waiter n h.quiet))

  abbrev e' : Entry
  e' = forgotten_entry n e i

  quiet_after : waits n e' ≡ false
  quiet_after = rw not_waiting_lem h.quiet

  pub uncalled : call_to n e' i ≡ 0
  uncalled = ap (λ (b : Bool). cond b (kind_of (get_or e'.calls i 0)) 0) quiet_after

  last_gone : n ≤ nobody → eqb (cond (eqb e.last i) nobody e.last) i ≡ false
  last_gone bound =
      split (eqb e.last i)
      (λ is. rw is (ne_eqb nobody i (λ x. omega (arith, below, bound, x))))
      (λ off. rw (off, off))

  last_kept : n ≤ nobody → (j : ℕ) → j < n → eqb j i ≡ false → eqb (cond (eqb e.last i) nobody e.last) j ≡ eqb e.last j
  last_kept bound j low away =
      split (eqb e.last i)
      (λ is.
      let names : e.last ≡ i = eqb-true e.last i is in
      ap (λ (b : Bool). eqb (cond b nobody e.last) j) is
      ∙ ne_eqb nobody j (λ x. omega (arith, low, bound, x))
      ∙ sym (ap (λ k. eqb k j) names ∙ other_sym i j away))
      (λ off. ap (λ (b : Bool). eqb (cond b nobody e.last) j) off)

  pub forget_accepts : n ≤ nobody → Accepting n (at i true accepted) e'
  forget_accepts bound =
      let fits : i < length e.records = omega (arith, below, h.room) in
      let gone : accepted_of e' i ≡ no_client = said (get_or-set_same e.records i not_open not_open fits) (last_gone bound) in
      heard_accepts h i no_client e'
      (rw (length-set e.records i not_open) h.room)
      quiet_after
      (λ d. ap (λ (c : ClientFile). clash c d) gone)
      (λ j low away. said (get_or-set_other e.records i j not_open not_open (eqb-false j i away)) (last_kept bound j low away))
      refl
      nothing_apart

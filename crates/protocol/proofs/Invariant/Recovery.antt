-- A crash, a report and the end of a recovery. It leads to the promises crashes, crashes_again, reports and ends.
-- Assumes nothing.
use Prim.Native.Nat.{ℕ, ◌<◌, ◌≤◌}
use mathlib.Core.Path.{◌≡◌, refl, sym, ◌∙◌, ap, subst}
use mathlib.Core.Bool.{Bool, true, false, cond}
use mathlib.Core.Logic.{inr}
use mathlib.Core.List.{List}
use native.Mathlib.Omega.{arith}
use lib.Dec.{ltb}
use lib.ListN.{length, length-set, get_or-eq_default}
use lib.Seq.{ext_get_or, get_or-set_same, get_or-set_other}
use borrow.Author.Tests.{eqb-false, le-ltb, ltb-true, ltb-false}
use Rattle.records.specs.declared.record.ClientRecord.{ClientRecord}
use Rattle.records.specs.declared.version.Version.{Version}
use Rattle.protocol.specs.declared.client.ClientFile.{ClientFile}
use Rattle.protocol.specs.declared.entry.Entry.{Entry}
use Rattle.sizes.specs.Sizes.{nobody}
use Rattle.records.specs.Record.{not_open}
use Rattle.decision.specs.Lists.{filled}
use Rattle.decision.specs.State.{record_in}
use Rattle.protocol.specs.Client.{no_client}
use Rattle.protocol.specs.Entry.{record_at, waits, crashed_entry, reported_entry}
use Rattle.protocol.specs.Book.{History}
use Rattle.protocol.specs.Table.{Row, row_of}
use Rattle.decision.proofs.Storing.{length_stored, get_d_stored}
use Rattle.protocol.proofs.View.{View, at, crashed_view, reported_view}
use Rattle.protocol.proofs.Invariant.{Clients, LastWriter, Agrees, everybody, Running, Recovering}
use Rattle.protocol.proofs.Invariant.Flags.{conflict, split, change}
use Rattle.protocol.proofs.Invariant.Last.{last_none, last_one, last_same}
use Rattle.protocol.proofs.Invariant.Change.{marked_is_client}

-- no record is left of anybody
cleared : (n : ℕ) (l : List ClientRecord) (s : ℕ) → length l ≡ n → record_in (filled n not_open l) s ≡ not_open
cleared n l s size =
    split (ltb s n)
    (λ e.
    get_d_stored n (λ j. j) (λ j. not_open) l not_open s (ltb-true s n e) (rw size (ltb-true s n e)) (λ j above _. omega arith))
    (λ e.
    get_or-eq_default (filled n not_open l) not_open
    (rw (length_stored n (λ j. j) (λ j. not_open) l, size) (ltb-false s n e)))

-- the table after a crash, which has heard those alone that have nothing
crashed_table :
    (n : ℕ) (e : Entry) (client : ℕ → ClientFile) (heard : ℕ → Bool)
    → n ≤ nobody
    → length e.records ≡ n
    → ((s : ℕ) → heard s ≡ true → client s ≡ no_client)
    → Agrees n (crashed_entry n e).records (crashed_entry n e).last client heard
crashed_table n e client heard bound size nothing =
    record {
      size = length_stored n (λ j. j) (λ j. not_open) e.records ∙ size;
      known = λ s t. cleared n e.records s size ∙ sym (ap (λ (c : ClientFile). c.opens) (nothing s t));
      last_writer = last_none bound
          (λ s t m. conflict m (ap (λ (c : ClientFile). c.marked) (nothing s t)));
    }

pub crash_kept :
    (n : ℕ) (v : View) (k : History) (heard : ℕ → Bool)
    → n ≤ nobody
    → Running n v k
    → ((s : ℕ) → heard s ≡ true → v.client s ≡ no_client)
    → Recovering n (crashed_view n v) k heard (row_of v.entry)
crash_kept n v k heard bound h nothing =
    record {
      sound = h.sound;
      booked = h.booked;
      table = crashed_table n v.entry v.client heard bound h.table.size nothing;
      calls = length_stored n (λ j. j) (λ j. 0) v.entry.calls ∙ h.calls;
      none_waits = le-ltb nobody n bound;
      before = h.table;
      version = refl;
    }

pub crash_again_kept :
    (n : ℕ) (v : View) (k : History) (reported heard : ℕ → Bool) (row : Row)
    → n ≤ nobody
    → Recovering n v k reported row
    → ((s : ℕ) → heard s ≡ true → v.client s ≡ no_client)
    → Recovering n (crashed_view n v) k heard row
crash_again_kept n v k reported heard row bound h nothing =
    record {
      sound = h.sound;
      booked = h.booked;
      table = crashed_table n v.entry v.client heard bound h.table.size nothing;
      calls = length_stored n (λ j. j) (λ j. 0) v.entry.calls ∙ h.calls;
      none_waits = le-ltb nobody n bound;
      before = h.before;
      version = h.version;
    }

module _
    {n : ℕ}
    {version : Version}
    {client : ℕ → ClientFile}
    {heard : ℕ → Bool}
    (c : Clients n version client)
    (e : Entry)
    (h : Agrees n e.records e.last client heard)
  where
    -- the last writer after the report of client i: where i is marked no other client is, so that none is lost
    last-heard :
        (i : ℕ)
        → i < n
        → LastWriter n (reported_entry e i (client i)).last client (at i true heard)
    last-heard i below =
        split (client i).marked
        (λ m. let is : (reported_entry e i (client i)).last ≡ i = cc in
        rw is (last_one i below m (λ s away x. (c.apart i s away).marked_excludes m (inr x))))
        (λ unmarked. let is : (reported_entry e i (client i)).last ≡ e.last = cc in
        rw is (last_same h.last_writer
        (change (λ s b. cond b true (heard s) ≡ true → (client s).marked ≡ true
        → (heard s ≡ true) × ((client s).marked ≡ true)) i
        (λ _ m. absurd (conflict m unmarked)) (λ _ _ t m. (t, m)))
        (λ _ m. m)))

    -- the table after it
    heard-by :
        (i : ℕ)
        → i < n
        → Agrees n (reported_entry e i (client i)).records (reported_entry e i (client i)).last client (at i true heard)
    heard-by i below =
        let fits : i < length e.records = subst (λ m. i < m) (sym h.size) below in
        record {
          size = length-set e.records i _ ∙ h.size;
          known = change (λ s b. cond b true (heard s) ≡ true
              → record_at (reported_entry e i (client i)) s ≡ (client s).opens) i
              (λ _. get_or-set_same e.records i _ not_open fits)
              (λ s away t. get_or-set_other e.records i s _ not_open (eqb-false s i away) ∙ h.known s t);
          last_writer = last-heard i below;
        }

    -- once it has heard all clients, the table agrees with everybody
    heard_all : ((s : ℕ) → s < n → heard s ≡ true) → Agrees n e.records e.last client everybody
    heard_all all =
        record {
          size = h.size;
          known = λ s _. split (ltb s n)
              (λ is. h.known s (all s (ltb-true s n is)))
              (λ is. let out = ltb-false s n is in
              get_or-eq_default e.records not_open (subst (λ m. m ≤ s) (sym h.size) out)
              ∙ ap (λ x. x.opens) (sym (c.beyond s out)));
          last_writer = last_same h.last_writer (λ s _ m. (all s (marked_is_client c s m), m)) (λ _ m. m);
        }

pub report_kept :
    (n : ℕ) (v : View) (k : History) (i : ℕ) (reported : ℕ → Bool) (row : Row)
    → Recovering n v k reported row
    → i < n
    → Recovering n (reported_view v i) k (at i true reported) row
report_kept n v k i reported row h below =
    record {
      sound = h.sound;
      booked = h.booked;
      table = heard-by h.sound.clients v.entry h.table i below;
      calls = h.calls;
      none_waits = h.none_waits;
      before = h.before;
      version = h.version;
    }

-- Two tables that agree with everybody are one.
module _
    {n : ℕ}
    {client : ℕ → ClientFile}
    {records later : List ClientRecord}
    {last now : ℕ}
    (a : Agrees n records last client everybody)
    (b : Agrees n later now client everybody)
  where
    same-records : records ≡ later
    same-records =
        ext_get_or not_open records later (a.size ∙ sym b.size) (λ i _. a.known i refl ∙ sym (b.known i refl))

    same-last : last ≡ now
    same-last =
        let p = a.last_writer in
        let q = b.last_writer in
        split (ltb last n)
        (λ e. sym (q.named last refl (p.holder (ltb-true last n e))))
        (λ e. split (ltb now n)
        (λ e'. p.named now refl (q.holder (ltb-true now n e')))
        (λ e'. p.unnamed (ltb-false last n e) ∙ sym (q.unnamed (ltb-false now n e'))))

pub end_kept :
    (n : ℕ) (v : View) (k : History) (reported : ℕ → Bool) (row : Row)
    → Recovering n v k reported row
    → ((i : ℕ) → i < n → reported i ≡ true)
    → Running n v k × (row_of v.entry ≡ row) × (waits n v.entry ≡ false)
end_kept n v k reported row h all =
    let table = heard_all h.sound.clients v.entry h.table all in
    let records = same-records table h.before in
    let last = same-last table h.before in
    let version = h.version in (
      record { sound = h.sound; booked = h.booked; table = table; calls = h.calls; waiting = λ w. absurd (conflict w h.none_waits) },
      (λ i. record { records = records i; version = sym version i; last = last i }),
      h.none_waits,
    )

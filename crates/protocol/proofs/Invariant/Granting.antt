-- The one grant lemma: where no callback is out, the grant keeps the invariant, be it immediate or deferred, and keeps the
-- dirty block of who is marked. It leads to the promises opens and answers_last, opens_back and answers_last_back. Assumes
-- nothing.
use Prim.Native.Nat.{ℕ, ◌<◌, ◌≤◌}
use mathlib.Core.Path.{◌≡◌, refl, sym, ◌∙◌, subst, fun_ext}
use mathlib.Core.Bool.{true, false, cond, ◌&&◌}
use borrow.Author.Tests.{le-ltb}
use Rattle.records.specs.declared.record.Mode.{Mode}
use Rattle.protocol.specs.declared.reply.Grant.{Grant}
use Rattle.sizes.specs.Sizes.{nobody}
use Rattle.records.specs.Version.{is_last_version}
use Rattle.records.specs.Record.{is_write}
use Rattle.decision.specs.Permission.{permission_at_grant}
use Rattle.protocol.specs.Book.{History}
use Rattle.protocol.specs.Entry.{record_at, grant_of}
use Rattle.protocol.specs.Client.{granted_client, keeps_blocks}
use Rattle.decision.proofs.Storing.{length_stored}
use Rattle.protocol.proofs.View.{View, granted_view, Backs}
use Rattle.protocol.proofs.Invariant.{Running}
use Rattle.protocol.proofs.Invariant.Flags.{conflict, change}
use Rattle.protocol.proofs.Invariant.Permission.{Permitted, permitted}
use Rattle.protocol.proofs.Invariant.Latest.{Latest, latest}
use Rattle.protocol.proofs.Invariant.Grant.{Ready, was_marked, dirty-kept, dirty-alike, sound-granted, table-granted}
use Rattle.protocol.proofs.Invariant.Book.{booked_alike}

module _
    (n : ℕ)
    (v : View)
    (k : History)
    (i : ℕ)
    (mode : Mode)
    (h : Running n v k)
    (left : (is_write mode && is_last_version v.entry.version) ≡ false)
    (free : Ready v.client i mode)
  where
    abbrev g : Grant
    g = grant_of n v.entry i mode

    next : Latest v.entry.version mode g.latest
    next = latest v.entry.version h.sound.clients.version_not_zero mode left

    may : Permitted v.client i mode g.caching
    may =
        let records : record_at v.entry ≡ (λ s. (v.client s).opens) = fun_ext (λ s. h.table.known s refl) in
        subst (λ r. Permitted v.client i mode (permission_at_grant n r i mode)) (sym records)
        (permitted h.sound.clients i mode)

    pub grant-kept : n ≤ nobody → i < n → Running n (granted_view n v i mode) k
    grant-kept bound below =
        let clients = h.sound.clients in
        record {
          sound = rw next.stored (sound-granted clients i mode g next may free h.sound below);
          booked = booked_alike h.booked (dirty-alike clients i mode g next may free h.sound);
          table = table-granted clients i mode g next may free v.entry below bound h.table;
          calls = length_stored n (λ j. j) (λ j. 0) v.entry.calls ∙ h.calls;
          waiting = λ is. absurd (conflict is (le-ltb nobody n bound));
        }

    pub grant-backs : Backs v (granted_view n v i mode)
    grant-backs =
        let clients = h.sound.clients in
        let c = v.client i in
        let keep = keeps_blocks mode g c in
        let keeps : v.dirty i ≡ true → cond keep (v.dirty i) false ≡ true =
        λ d. subst (λ b. cond b (v.dirty i) false ≡ true) (sym (dirty-kept clients i mode g next may free h.sound d)) d in
        change
        (λ j b.
        (cond b (granted_client mode g c) (v.client j)).marked ≡ true
        → ((v.client j).marked ≡ true) × (v.dirty j ≡ true → cond b (cond keep (v.dirty i) false) (v.dirty j) ≡ true))
        i
        (λ m. (was_marked clients i mode g next may free m, keeps))
        (λ j _ m. (m, λ d. d))

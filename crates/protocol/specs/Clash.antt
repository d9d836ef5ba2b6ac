-- Reports that can't both be true (document 02, Wish 10): "no file has permission at a station that isn't open; a mark
-- at a station with writers, or open without permission; a marked station and another open or marked; or a station with
-- writers and another that may cache".
use Rattle.std.specs.Prelude.{ℕ, ◌<◌, ◌≡◌, Bool, true, false, not, ◌&&◌, ◌||◌, eqb, ltb}
use Rattle.records.specs.Version.{no_version}
use Rattle.records.specs.Record.{is_open}
use Rattle.decision.specs.Lists.{first_below}
use Rattle.protocol.specs.declared.client.ClientFile.{ClientFile}
use Rattle.protocol.specs.declared.entry.Entry.{Entry}
use Rattle.protocol.specs.Client.{no_client}
use Rattle.protocol.specs.Entry.{record_at}

abbrev pub has_open : ClientFile → Bool
has_open c = is_open c.opens

abbrev pub may_cache : ClientFile → Bool
may_cache c = c.opens.caching

abbrev pub has_writers : ClientFile → Bool
has_writers c = ltb 0 c.opens.writers

-- "permission at a station that isn't open"
abbrev pub caches_unopened : ClientFile → Bool
caches_unopened c = may_cache c && not (has_open c)

-- "a mark at a station with writers, or open without permission"
abbrev pub misplaces_mark : ClientFile → Bool
misplaces_mark c = c.marked && (has_writers c || (has_open c && not (may_cache c)))

-- "a marked station and another open or marked"
abbrev pub marks_beside : ClientFile → ClientFile → Bool
marks_beside c d = c.marked && (has_open d || d.marked)

-- "a station with writers and another that may cache"
abbrev pub writes_beside : ClientFile → ClientFile → Bool
writes_beside c d = has_writers c && may_cache d

-- the four, of a station c and another one, d; and of either
abbrev pub breaks : ClientFile → ClientFile → Bool
breaks c d = caches_unopened c || misplaces_mark c || marks_beside c d || writes_beside c d

abbrev pub clash : ClientFile → ClientFile → Bool
clash c d = breaks c d || breaks d c

-- a client that says nothing of the file breaks nothing there
abbrev pub says_anything : ClientFile → Bool
says_anything c = has_open c || may_cache c || c.marked

-- what the server has accepted of client j: its record, and its mark where it is the last writer
abbrev pub accepted_of : Entry → ℕ → ClientFile
accepted_of e j = record { opens = record_at e j; marked = eqb e.last j; label = no_version }

-- the first of n clients that has reported, and with which `own` clashes; n where there is none
abbrev pub clashes_with : ℕ → (ℕ → Bool) → Entry → ClientFile → ℕ
clashes_with n accepted e own = first_below n (λ j. accepted j && clash own (accepted_of e j))

-- "22 when a report, alone or with one accepted, breaks one of these": alone it is beside a client that says nothing
abbrev pub clashes_on : ℕ → (ℕ → Bool) → Entry → ClientFile → Bool
clashes_on n accepted e own =
    says_anything own && (clash own no_client || ltb (clashes_with n accepted e own) n)

-- what the server has accepted of n clients on a file agrees: none of them breaks one of the four alone, and no two do
pub record Agree (n : ℕ) (accepted : ℕ → Bool) (e : Entry) : Type 0 where
  pub alone : (j : ℕ) → j < n → accepted j ≡ true → clash (accepted_of e j) no_client ≡ false
  pub apart :
      (j k : ℕ)
      → j < n
      → k < n
      → accepted j ≡ true
      → accepted k ≡ true
      → eqb k j ≡ false
      → clash (accepted_of e j) (accepted_of e k) ≡ false

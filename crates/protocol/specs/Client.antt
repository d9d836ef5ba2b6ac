-- A client's side of one file: its own record, its last-writer flag (document 01: mark) and the version of its copy
-- (label), and how a grant, a close, a flush and an answer change them and the copies of its blocks.
use Rattle.std.specs.Prelude.{ℕ, ◌+◌, Bool, false, cond, not, ◌&&◌, List, ltb, get_or, set}
use Rattle.records.specs.declared.record.Mode.{Mode}
use Rattle.protocol.specs.declared.client.ClientFile.{ClientFile}
use Rattle.protocol.specs.declared.client.Sides.{Sides}
use Rattle.protocol.specs.declared.reply.Grant.{Grant}
use Rattle.decision.specs.Lists.{stored}
use Rattle.records.specs.Version.{no_version}
use Rattle.records.specs.Record.{not_open, is_open, is_write, opened, closed, uncached, ends_writing}
use Rattle.decision.specs.Callback.{writes_back, invalidates}
use Rattle.protocol.specs.Copy.{keeps_copy}

-- "The label becomes the latest. Without permission the copy is dropped, label 0. A write open clears the mark."
abbrev pub granted_client : Mode → Grant → ClientFile → ClientFile
granted_client mode g own =
    record {
      opens = opened mode g.caching own.opens;
      marked = not (is_write mode) && own.marked;
      label = cond g.caching g.latest no_version;
    }

-- "with permission, the copy is kept when ..; otherwise its blocks are dropped"
abbrev pub keeps_blocks : Mode → Grant → ClientFile → Bool
keeps_blocks mode g own = g.caching && keeps_copy mode own.label g.latest

-- "a close of the last writer count with permission sets mark .. if a block is dirty, else clears" it (document 02,
-- Wish 4). "A final close takes its permission away; its copy stays."
abbrev pub closed_client : Mode → Bool → ClientFile → ClientFile
closed_client mode dirty own =
    record {
      opens = closed mode own.opens;
      marked = cond (ends_writing mode own.opens) dirty own.marked;
      label = own.label;
    }

-- "the flush of the last dirty block clears the mark"
abbrev pub flushed_client : Bool → ClientFile → ClientFile
flushed_client left own = record { opens = own.opens; marked = left && own.marked; label = own.label }

-- "1 .. clears mark ..; 2 drops the copy, label 0, permission gone; 3 is 1, then 2."
abbrev pub answered_client : ℕ → ClientFile → ClientFile
answered_client kind own =
    record {
      opens = cond (invalidates kind) (uncached own.opens) own.opens;
      marked = not (writes_back kind) && own.marked;
      label = cond (invalidates kind) no_version own.label;
    }

-- the side of a client that has nothing of the file
abbrev pub no_client : ClientFile
no_client = record { opens = not_open; marked = false; label = no_version }

-- the side of client i among the clients' sides, and the sides with another for it
abbrev pub side_of : Sides → ℕ → ClientFile
side_of x i = get_or x.of i no_client

abbrev pub with_side : Sides → ℕ → ClientFile → Sides
with_side x i own = record { of = set x.of i own }

-- A read "needs the server .. unless the station is open, may cache and holds the block", a write "unless it has
-- writers and may cache".
abbrev pub read_needs_server : ClientFile → Bool → Bool
read_needs_server own held = not (is_open own.opens && own.opens.caching && held)

abbrev pub write_needs_server : ClientFile → Bool
write_needs_server own = not (ltb 0 own.opens.writers && own.opens.caching)

-- "A dropped block is not held, not dirty and zero": the values, or the flags, of one file's n blocks from `base` on,
-- with none in each place, unless they are kept.
abbrev pub kept {ℓ} : {A : Type ℓ} → ℕ → Bool → A → ℕ → List A → List A
kept n keep none base l = cond keep l (stored n (λ b. base + b) (λ b. none) l)

-- "1 sends every dirty block": the server's n blocks from `to` on, after the dirty ones of the copies from `base` on
-- have come.
abbrev pub sent : ℕ → Bool → List Bool → List ℕ → ℕ → ℕ → List ℕ → List ℕ
sent n send dirty copies base to l =
    cond send
    (stored n (λ b. to + b) (λ b. cond (get_or dirty (base + b) false) (get_or copies (base + b) 0) (get_or l (to + b) 0)) l)
    l

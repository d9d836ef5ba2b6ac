-- What a sentence looks at besides the step and its reply.
use Rattle.std.specs.Prelude.{ℕ, ◌+◌, ◌*◌, ◌%◌, Bool, false, cond, List, leb, get_or}
use Rattle.sizes.specs.declared.sizes.Sizes.{Sizes}
use Rattle.sizes.specs.Sizes.{max_clients, max_files}
use Rattle.decision.specs.Lists.{stored}
use Rattle.protocol.specs.declared.client.ClientFile.{ClientFile}
use Rattle.protocol.specs.declared.client.Sides.{Sides}
use Rattle.protocol.specs.declared.entry.Entry.{Entry}
use Rattle.protocol.specs.declared.step.Step.{Step}
use Rattle.protocol.specs.Client.{side_of}
use Rattle.protocol.specs.Step.{client_of, file_of}
use Rattle.words.specs.Rows.{row_words, table_words, entry_held, sides_held}
use Rattle.service.specs.declared.service.Service.{Service}
use Rattle.service.specs.Contents.{sizes_of, table_in, entry_at, sides_at, client_at}
use Rattle.service.specs.Lent.{reported_held, embargoed_held, used_held}
use Rattle.service.specs.Step.{step_of}
use Rattle.ledger.specs.declared.ledger.Ledger.{Ledger}
use Rattle.ledger.specs.declared.lines.Lines.{Lines}
use Rattle.ledger.specs.declared.told.Told.{Told}
use Rattle.ledger.specs.Ledger.{waiting_since, embargoed_since, may_cache, is_aside, step_told, lines_at}

-- of the file that the step names; of file 0 where it names none
pub record Scene : Type 0 where
  -- the sizes in force, who has reported, and who is under embargo, before the step
  pub sizes : Sizes
  pub reported : List Bool
  pub embargoed : List Bool
  -- which blocks are used, before the step, and which copies are dirty, after it
  pub used : List Bool
  pub dirty : List Bool
  -- the server's entry of the file, before the step and after it
  pub entry : Entry
  pub after : Entry
  -- the clients' sides of the file, before the step
  pub sides : Sides
  -- the line since which an open of the file waits
  pub since : ℕ
  -- whether the client is under embargo, and the line since which it is so
  pub aside : Bool
  pub embargo : ℕ
  -- what is told of a read
  pub told : Told
  -- whether the client may cache the file
  pub caching : Bool

-- where the step x finds the service s with the ledger l
abbrev pub scene_of : Service → Ledger → Step → Scene
scene_of s l x =
    record {
      sizes = sizes_of s;
      reported = (table_in s).reported;
      embargoed = (table_in s).embargoed;
      used = s.server.used;
      dirty = (step_of s x).service.dirty;
      entry = entry_at s (file_of x);
      after = entry_at (step_of s x).service (file_of x);
      sides = sides_at s (file_of x);
      since = waiting_since l (file_of x);
      aside = is_aside s x;
      embargo = embargoed_since l (client_of x);
      told = step_told s l x;
      caching = may_cache s x;
    }

-- of every file, which is what a restart and an embargo are told by, and a report that clashes
pub record Whole : Type 0 where
  -- the server's entry of a file, before the step and after it
  pub entry : ℕ → Entry
  pub after : ℕ → Entry
  -- a client's side of a file, before the step and after it
  pub side : ℕ → ℕ → ClientFile
  pub side_after : ℕ → ℕ → ClientFile
  -- the lines of the writes to a block of a file, before the step
  pub lines : ℕ → ℕ → Lines

abbrev pub whole_of : Service → Ledger → Step → Whole
whole_of s l x =
    record {
      entry = entry_at s;
      after = entry_at (step_of s x).service;
      side = λ i f. client_at s i f;
      side_after = λ i f. client_at (step_of s x).service i f;
      lines = lines_at l;
    }

-- ---- in lent arrays

-- The words of the table that are kept from before a step, in an array as long as the table: those of the row of its
-- file; before a step on all files, whose kinds are those from 11 on, all of them.
abbrev pub kept_from : ℕ → ℕ → ℕ
kept_from kind f = cond (leb 11 kind) 0 (f % max_files * row_words)

abbrev pub kept_words : ℕ → ℕ
kept_words kind = cond (leb 11 kind) table_words row_words

abbrev pub kept_before : ℕ → ℕ → List ℕ → List ℕ → List ℕ
kept_before kind f t before =
    stored (kept_words kind) (λ k. kept_from kind f + k) (λ k. get_or t (kept_from kind f + k) 0) before

-- whether the flags have a client, which is wrapped, under embargo
abbrev pub aside_held : List Bool → ℕ → Bool
aside_held flags i = get_or flags (max_clients + 1 + i % max_clients) false

-- what is held by the words that are kept from before the step x, by the table after it, the flags before it and the
-- dirty copies after it, and by the lines before it since which opens wait and clients are under embargo
abbrev pub scene_held : Sizes → Step → List ℕ → List ℕ → List Bool → List Bool → List ℕ → Told → Bool → Scene
scene_held z x before t flags dirty since told caching =
    record {
      sizes = z;
      reported = reported_held flags;
      embargoed = embargoed_held flags;
      used = used_held flags;
      dirty = dirty;
      entry = entry_held before (file_of x % max_files);
      after = entry_held t (file_of x % max_files);
      sides = sides_held before (file_of x % max_files);
      since = get_or since (file_of x % max_files) 0;
      aside = aside_held flags (client_of x);
      embargo = get_or since (max_files + client_of x % max_clients) 0;
      told = told;
      caching = caching;
    }

abbrev pub whole_held : List ℕ → List ℕ → (ℕ → ℕ → Lines) → Whole
whole_held before t lines =
    record {
      entry = entry_held before;
      after = entry_held t;
      side = λ i f. side_of (sides_held before f) i;
      side_after = λ i f. side_of (sides_held t f) i;
      lines = lines;
    }

-- Hand-made entries in the summary, by evaluation: docs/DECISIONS.md, "Hand-made states". Assumes nothing.
use Prim.Native.Nat.{ℕ}
use mathlib.Core.Path.{◌≡◌, refl}
use mathlib.Core.List.{List}
use Rattle.records.specs.Record.{not_open}
use Rattle.protocol.specs.declared.entry.Entry.{Entry}
use Rattle.sizes.specs.Sizes.{nobody}
use Rattle.decision.specs.Lists.{count}
use Rattle.decision.specs.State.{state_of}
use Rattle.service.specs.Fresh.{fresh}
use Rattle.service.proofs.Making.{reading, entry, with_file}
use Rattle.stepfile.specs.Text.{bytes, decimal, digits_of}
use Rattle.stepfile.specs.Summary.{files_text, summary_text}
use Rattle.stepfile.specs.Played.{summary_of}

-- the summary of the fresh service with this entry for file 0
abbrev summary : Entry → List ℕ
summary e = summary_of (with_file e)

pub record HandMade : Type 0 where
  -- a version of 0 is listed as 1, and a CLOSED file with it is not listed
  pub zero_closed : summary (entry 0 not_open not_open nobody) ≡ bytes "files 0\n"
  pub zero_open : summary (entry 0 reading not_open nobody) ≡ bytes "files 1\n0 2 1 -\n"
  -- a last writer of 8 or more is none
  pub no_last : summary (entry 1 not_open not_open 8) ≡ bytes "files 0\n"
  pub no_last_told : summary (entry 2 not_open not_open 8) ≡ bytes "files 1\n0 0 2 -\n"

pub hand_made : HandMade
unfolding fresh state_of count digits_of decimal files_text summary_text
hand_made = record { zero_closed = refl; zero_open = refl; no_last = refl; no_last_told = refl }

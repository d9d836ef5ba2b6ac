-- What is told of reads of the two mornings of the README, of a block that nobody wrote, and of writes that a restart
-- or an embargo lost, from the definitions by evaluation. Assumes nothing.
use Prim.Native.Nat.{ℕ, ◌+◌}
use mathlib.Core.Path.{◌≡◌, refl}
use mathlib.Core.Bool.{Bool, true, false}
use mathlib.Core.List.{List, [], ◌∷◌, ◌++◌, map}
use Rattle.decision.specs.Lists.{count, stored, first_below}
use Rattle.decision.specs.State.{state_of}
use Rattle.decision.specs.Permission.{permission_at_grant}
use Rattle.protocol.specs.declared.step.Step.{Step}
use Rattle.file.specs.FileStep.{file_step, after_forgetting, after_dropping}
use Rattle.access.specs.BlockStep.{block_step}
use Rattle.table.specs.TableStep.{table_step}
use Rattle.service.specs.declared.service.Service.{Service}
use Rattle.service.specs.Embargo.{forgotten_below, grants_below, dropped_below, all_step}
use Rattle.service.specs.Space.{any_below, sum_below, spaced}
use Rattle.service.specs.Step.{moved, step_of}
use Rattle.service.specs.Fresh.{fresh}
use Rattle.service.specs.Demand3.{after}
use Rattle.service.proofs.Run.{fresh_default, OR, OW, CR, CW, RD, WR, FL, AN, BT, EM, LF}
use Rattle.ledger.specs.declared.told.Told.{Told}
use Rattle.ledger.specs.declared.ledger.Ledger.{Ledger}
use Rattle.ledger.specs.declared.lines.Lines.{Lines}
use Rattle.ledger.specs.Ledger.{empty_ledger, lines_at, waiting_since, embargoed_since, risks_in, came_from, lost_below}
use Rattle.ledger.specs.Ledger.{ledger_after, read_told}

-- the latest write is lost
abbrev losing : Bool → Bool → ℕ → ℕ → ℕ → ℕ → ℕ → Told
losing own dirty since line client lost loser =
    record { own = own; dirty = dirty; since = since; line = line; client = client; lost = lost; loser = loser }

abbrev told : Bool → Bool → ℕ → ℕ → ℕ → Told
told own dirty since line client = losing own dirty since line client 0 0

-- what is told of a read of block 0 of file f by client i after the steps, which begin at line n
abbrev told_after : Service → Ledger → ℕ → List Step → ℕ → ℕ → Told
told_after s l n [] i f = read_told s l i f 0
told_after s l n (x ∷ xs) i f = told_after (after s x) (ledger_after n s x l) (n + 1) xs i f

abbrev since_after : Service → Ledger → ℕ → List Step → ℕ → ℕ
since_after s l n [] f = waiting_since l f
since_after s l n (x ∷ xs) f = since_after (after s x) (ledger_after n s x l) (n + 1) xs f

-- the lines of block b of file f after the steps
abbrev lines_after : Service → Ledger → ℕ → List Step → ℕ → ℕ → Lines
lines_after s l n [] f b = lines_at l f b
lines_after s l n (x ∷ xs) f b = lines_after (after s x) (ledger_after n s x l) (n + 1) xs f b

abbrev noted : List Step → ℕ → ℕ → Lines
noted = lines_after fresh_default empty_ledger 1

-- only a safe write is noted, or one at risk after it
abbrev risked : ℕ → ℕ → ℕ → ℕ → Lines
risked line client risk risker =
    record { safe = line; saver = client; risk = risk; risker = risker; lost = 0; loser = 0 }

abbrev safe : ℕ → ℕ → Lines
safe line client = risked line client 0 0

-- lines 1 to 5 of the milling wheat
abbrev wheat : List Step
wheat = OW 2 3 ∷ WR 2 3 0 23900 ∷ FL 2 3 0 ∷ WR 2 3 0 24150 ∷ OR 5 3 ∷ []

-- a write that is flushed, and one after it; and writes to three blocks
abbrev again : List Step
again = OW 2 3 ∷ WR 2 3 0 23900 ∷ FL 2 3 0 ∷ WR 2 3 0 24150 ∷ []

abbrev many : List Step
many = OW 2 3 ∷ WR 2 3 0 5 ∷ WR 2 3 0 6 ∷ OW 2 4 ∷ WR 2 4 1 7 ∷ OW 5 6 ∷ WR 5 6 0 8 ∷ []

abbrev first : List Step → ℕ → ℕ → Told
first = told_after fresh_default empty_ledger 1

pub record Examples : Type 0 where
  -- nobody wrote: line 0
  pub never : first (OR 5 3 ∷ []) 5 3 ≡ told false false 0 0 0
  -- the curve desk's own copy, dirty, written there at line 4
  pub dirty : first (OW 2 3 ∷ WR 2 3 0 23900 ∷ FL 2 3 0 ∷ WR 2 3 0 24150 ∷ []) 2 3 ≡ told true true 4 4 2
  -- line 8 of the milling wheat: from the server, written by client 2 at line 4
  pub wheat_read :
      first (OW 2 3 ∷ WR 2 3 0 23900 ∷ FL 2 3 0 ∷ WR 2 3 0 24150 ∷ OR 5 3 ∷ RD 5 3 0 ∷ AN 2 3 ∷ []) 5 3
      ≡ told false false 0 4 2
  -- the open waits since line 5
  pub waits : since_after fresh_default empty_ledger 1 wheat 3 ≡ 5
  -- the feed barley, read again after line 6: the copy was fetched at line 6, and line 2 wrote it
  pub barley_copy :
      first (OW 2 7 ∷ WR 2 7 0 18700 ∷ CW 2 7 ∷ OR 5 7 ∷ AN 2 7 ∷ RD 5 7 0 ∷ []) 5 7 ≡ told true false 6 2 2
  -- line 13 of the feed barley: the copy is dropped, so from the server, written at line 9
  pub barley_read :
      first
      (OW 2 7
      ∷ WR 2 7 0 18700
      ∷ CW 2 7
      ∷ OR 5 7
      ∷ AN 2 7
      ∷ RD 5 7 0
      ∷ CR 5 7
      ∷ OW 2 7
      ∷ WR 2 7 0 19050
      ∷ CW 2 7
      ∷ OR 5 7
      ∷ AN 2 7
      ∷ [])
      5 7
      ≡ told false false 6 9 2
  -- what a restart of client 2 loses: the latest write to each block that it has dirty
  pub loses : noted many 3 0 ≡ risked 0 0 3 2
  pub loses_other : noted many 4 1 ≡ risked 0 0 5 2
  pub loses_these :
      map (risks_in 2) (noted many 3 0 ∷ noted many 4 1 ∷ noted many 6 0 ∷ []) ≡ true ∷ true ∷ false ∷ []
  -- a flush makes its block safe, an answer every block of the file, and a write that is sent is safe at once
  pub flushed : noted (OW 2 3 ∷ WR 2 3 0 5 ∷ WR 2 3 1 6 ∷ FL 2 3 0 ∷ []) 3 0 ≡ safe 2 2
  pub unflushed : noted (OW 2 3 ∷ WR 2 3 0 5 ∷ WR 2 3 1 6 ∷ FL 2 3 0 ∷ []) 3 1 ≡ risked 0 0 3 2
  pub answered : noted (OW 2 3 ∷ WR 2 3 0 5 ∷ WR 2 3 1 6 ∷ OR 5 3 ∷ AN 2 3 ∷ []) 3 1 ≡ safe 3 2
  pub sent : noted (OW 2 3 ∷ OR 5 3 ∷ AN 2 3 ∷ WR 2 3 1 6 ∷ []) 3 1 ≡ safe 4 2

pub examples : Examples
unfolding fresh empty_ledger ledger_after came_from step_of moved spaced any_below sum_below file_step block_step table_step first_below state_of permission_at_grant count stored
examples =
    record {
      never = refl;
      dirty = refl;
      wheat_read = refl;
      waits = refl;
      barley_copy = refl;
      barley_read = refl;
      loses = refl;
      loses_other = refl;
      loses_these = refl;
      flushed = refl;
      unflushed = refl;
      answered = refl;
      sent = refl;
    }

-- ---- after a restart

-- the write of line 4 is lost with client 2's restart: line 2 wrote what is read, and the loss is told
pub lost_told : first (again ++ BT 2 ∷ OR 5 3 ∷ []) 5 3 ≡ losing false false 0 2 2 4 2
unfolding fresh empty_ledger ledger_after came_from lost_below step_of moved spaced any_below sum_below file_step block_step table_step first_below all_step after_forgetting after_dropping forgotten_below grants_below dropped_below state_of permission_at_grant count stored
lost_told = refl

-- no write is left
pub first_lost : first (OW 2 3 ∷ WR 2 3 0 23900 ∷ BT 2 ∷ OR 5 3 ∷ []) 5 3 ≡ losing false false 0 0 0 2 2
unfolding fresh empty_ledger ledger_after came_from lost_below step_of moved spaced any_below sum_below file_step block_step table_step first_below all_step after_forgetting after_dropping forgotten_below grants_below dropped_below state_of permission_at_grant count stored
first_lost = refl

-- the next write ends it
pub lost_no_more : first (again ++ BT 2 ∷ OW 5 3 ∷ WR 5 3 0 7 ∷ []) 5 3 ≡ told true true 7 7 5
unfolding fresh empty_ledger ledger_after came_from lost_below step_of moved spaced any_below sum_below file_step block_step table_step first_below all_step after_forgetting after_dropping forgotten_below grants_below dropped_below state_of permission_at_grant count stored
lost_no_more = refl

-- a restart of another client loses nothing
pub nothing_lost : first (again ++ BT 5 ∷ OR 5 3 ∷ AN 2 3 ∷ []) 5 3 ≡ told false false 0 4 2
unfolding fresh empty_ledger ledger_after came_from lost_below step_of moved spaced any_below sum_below file_step block_step table_step first_below all_step after_forgetting after_dropping forgotten_below grants_below dropped_below state_of permission_at_grant count stored
nothing_lost = refl

-- ---- under embargo

-- since which line client i is under embargo after the steps
abbrev aside_after : Service → Ledger → ℕ → List Step → ℕ → ℕ
aside_after s l n [] i = embargoed_since l i
aside_after s l n (x ∷ xs) i = aside_after (after s x) (ledger_after n s x l) (n + 1) xs i

abbrev aside : List Step → ℕ → ℕ
aside = aside_after fresh_default empty_ledger 1

-- the open of line 5 calls client 2, which does not answer
abbrev silent : List Step
silent = again ++ OR 5 3 ∷ EM 2 3 ∷ []

-- the write of line 4 is lost; what client 2 still writes is lost at once, and is then the latest
pub more_lost : first (silent ++ WR 2 3 0 25000 ∷ []) 5 3 ≡ losing false false 0 2 2 7 2
unfolding fresh empty_ledger ledger_after came_from lost_below step_of moved spaced any_below sum_below file_step block_step table_step first_below all_step after_forgetting after_dropping forgotten_below grants_below dropped_below state_of permission_at_grant count stored
more_lost = refl

-- client 5 has a write at risk and restarts: client 2's is the later one
pub latest_loss :
    noted (silent ++ OW 5 3 ∷ WR 5 3 0 7 ∷ WR 2 3 0 25000 ∷ BT 5 ∷ []) 3 0
    ≡ record { safe = 2; saver = 2; risk = 0; risker = 0; lost = 9; loser = 2 }
unfolding fresh empty_ledger ledger_after came_from lost_below step_of moved spaced any_below sum_below file_step block_step table_step first_below all_step after_forgetting after_dropping forgotten_below grants_below dropped_below state_of permission_at_grant count stored
latest_loss = refl

-- the line of an embargo, until its client is told or restarts
pub aside_since : aside silent 2 ≡ 6
unfolding fresh empty_ledger ledger_after came_from lost_below step_of moved spaced any_below sum_below file_step block_step table_step first_below all_step after_forgetting after_dropping forgotten_below grants_below dropped_below state_of permission_at_grant count stored
aside_since = refl

pub aside_no_more : aside (silent ++ LF 2 ∷ []) 2 ≡ 0
unfolding fresh empty_ledger ledger_after came_from lost_below step_of moved spaced any_below sum_below file_step block_step table_step first_below all_step after_forgetting after_dropping forgotten_below grants_below dropped_below state_of permission_at_grant count stored
aside_no_more = refl

-- The kinds of steps, named once: what each touches, and the numbers that it is. A new kind is a line of each definition
-- here; what the service does at it stands with the rules.
use Rattle.std.specs.Prelude.{ℕ, Bool, true, false, cond, Option, Some, None, eqb, ltb}
use Rattle.records.specs.declared.record.Mode.{Mode}
use Rattle.records.specs.declared.record.Mode.TheVariants.{Read as ForRead, Write as ForWrite}
use Rattle.protocol.specs.declared.step.Numbers.{Numbers}
use Rattle.protocol.specs.declared.step.Step.{Step}
use Rattle.protocol.specs.declared.step.Step.TheVariants.{Open, Close, Read, Write, Flush, Answer, Crash}
use Rattle.protocol.specs.declared.step.Step.TheVariants.{Report, End, Restart, Embargo, Lift}

-- what a step touches: one file, with its entry, the clients' sides of it, its blocks and their copies; one block of a
-- file, for a client; the whole table; or all files
pub data Class : Type 0 where
  OnFile : ℕ → Class
  OnBlock : ℕ → ℕ → Class
  OnTable : Class
  OnAll : Class

abbrev pub class_of : Step → Class
class_of (Open m i f) = OnFile f
class_of (Close m i f) = OnFile f
class_of (Read i f b) = OnBlock i f
class_of (Write i f b v) = OnBlock i f
class_of (Flush i f b) = OnFile f
class_of (Answer i f) = OnFile f
class_of Crash = OnTable
class_of (Report i) = OnTable
class_of End = OnTable
class_of (Restart i) = OnAll
class_of (Embargo i f) = OnAll
class_of (Lift i) = OnAll

-- whether it is a step on the table, and one on all files
abbrev pub on_table : Class → Bool
on_table (OnFile f) = false
on_table (OnBlock i f) = false
on_table OnTable = true
on_table OnAll = false

abbrev pub is_on_table : Step → Bool
is_on_table x = on_table (class_of x)

abbrev pub on_all : Class → Bool
on_all (OnFile f) = false
on_all (OnBlock i f) = false
on_all OnTable = false
on_all OnAll = true

abbrev pub is_on_all : Step → Bool
is_on_all x = on_all (class_of x)

-- ---- what a step does, for the definition of each class; a step of another class does nothing there

pub data FileAct : Type 0 where
  opens : Mode → ℕ → ℕ → FileAct
  closes : Mode → ℕ → ℕ → FileAct
  flushes : ℕ → ℕ → ℕ → FileAct
  answers : ℕ → ℕ → FileAct
  nothing : FileAct

abbrev pub file_act : Step → FileAct
file_act (Open m i f) = opens m i f
file_act (Close m i f) = closes m i f
file_act (Read i f b) = nothing
file_act (Write i f b v) = nothing
file_act (Flush i f b) = flushes i f b
file_act (Answer i f) = answers i f
file_act Crash = nothing
file_act (Report i) = nothing
file_act End = nothing
file_act (Restart i) = nothing
file_act (Embargo i f) = nothing
file_act (Lift i) = nothing

pub data BlockAct : Type 0 where
  reads : ℕ → ℕ → ℕ → BlockAct
  writes : ℕ → ℕ → ℕ → ℕ → BlockAct
  nothing : BlockAct

abbrev pub block_act : Step → BlockAct
block_act (Open m i f) = nothing
block_act (Close m i f) = nothing
block_act (Read i f b) = reads i f b
block_act (Write i f b v) = writes i f b v
block_act (Flush i f b) = nothing
block_act (Answer i f) = nothing
block_act Crash = nothing
block_act (Report i) = nothing
block_act End = nothing
block_act (Restart i) = nothing
block_act (Embargo i f) = nothing
block_act (Lift i) = nothing

pub data TableAct : Type 0 where
  crashes : TableAct
  reports : ℕ → TableAct
  ends : TableAct
  nothing : TableAct

abbrev pub table_act : Step → TableAct
table_act (Open m i f) = nothing
table_act (Close m i f) = nothing
table_act (Read i f b) = nothing
table_act (Write i f b v) = nothing
table_act (Flush i f b) = nothing
table_act (Answer i f) = nothing
table_act Crash = crashes
table_act (Report i) = reports i
table_act End = ends
table_act (Restart i) = nothing
table_act (Embargo i f) = nothing
table_act (Lift i) = nothing

pub data AllAct : Type 0 where
  restarts : ℕ → AllAct
  embargoes : ℕ → ℕ → AllAct
  lifts : ℕ → AllAct
  nothing : AllAct

abbrev pub all_act : Step → AllAct
all_act (Open m i f) = nothing
all_act (Close m i f) = nothing
all_act (Read i f b) = nothing
all_act (Write i f b v) = nothing
all_act (Flush i f b) = nothing
all_act (Answer i f) = nothing
all_act Crash = nothing
all_act (Report i) = nothing
all_act End = nothing
all_act (Restart i) = restarts i
all_act (Embargo i f) = embargoes i f
all_act (Lift i) = lifts i

-- ---- a step as five numbers

-- one of two numbers, by a mode
abbrev pub by_mode : Mode → ℕ → ℕ → ℕ
by_mode ForRead r w = r
by_mode ForWrite r w = w

abbrev pub five : ℕ → ℕ → ℕ → ℕ → ℕ → Numbers
five kind i f b v = record { kind = kind; client = i; file = f; block = b; value = v }

-- its kind, and what it names; 0 where it names none
abbrev pub numbers_of : Step → Numbers
numbers_of (Open m i f) = five (by_mode m 0 1) i f 0 0
numbers_of (Close m i f) = five (by_mode m 2 3) i f 0 0
numbers_of (Read i f b) = five 4 i f b 0
numbers_of (Write i f b v) = five 5 i f b v
numbers_of (Flush i f b) = five 6 i f b 0
numbers_of (Answer i f) = five 7 i f 0 0
numbers_of Crash = five 8 0 0 0 0
numbers_of (Report i) = five 9 i 0 0 0
numbers_of End = five 10 0 0 0 0
numbers_of (Restart i) = five 11 i 0 0 0
numbers_of (Embargo i f) = five 12 i f 0 0
numbers_of (Lift i) = five 13 i 0 0 0

-- how many kinds there are; one of them is the step of these numbers, and what it does not name is not looked at
abbrev pub kinds : ℕ
kinds = 14

abbrev pub step_asked : ℕ → ℕ → ℕ → ℕ → ℕ → Step
step_asked kind i f b v =
    cond (eqb kind 0) (Open ForRead i f)
    (cond (eqb kind 1) (Open ForWrite i f)
    (cond (eqb kind 2) (Close ForRead i f)
    (cond (eqb kind 3) (Close ForWrite i f)
    (cond (eqb kind 4) (Read i f b)
    (cond (eqb kind 5) (Write i f b v)
    (cond (eqb kind 6) (Flush i f b)
    (cond (eqb kind 7) (Answer i f)
    (cond (eqb kind 8) Crash
    (cond (eqb kind 9) (Report i)
    (cond (eqb kind 10) End
    (cond (eqb kind 11) (Restart i)
    (cond (eqb kind 12) (Embargo i f) (Lift i)))))))))))))

-- the step of five numbers; a kind past the last is none
abbrev pub step_numbered : Numbers → Option Step
step_numbered n = cond (ltb n.kind kinds) (Some (step_asked n.kind n.client n.file n.block n.value)) None

-- what a step names
abbrev pub client_of : Step → ℕ
client_of x = (numbers_of x).client

abbrev pub file_of : Step → ℕ
file_of x = (numbers_of x).file

abbrev pub block_of : Step → ℕ
block_of x = (numbers_of x).block

-- for read or for write: the mode of an open or a close; a write writes, and all else does not
abbrev pub mode_of : Step → Mode
mode_of (Open m i f) = m
mode_of (Close m i f) = m
mode_of (Read i f b) = ForRead
mode_of (Write i f b v) = ForWrite
mode_of (Flush i f b) = ForRead
mode_of (Answer i f) = ForRead
mode_of Crash = ForRead
mode_of (Report i) = ForRead
mode_of End = ForRead
mode_of (Restart i) = ForRead
mode_of (Embargo i f) = ForRead
mode_of (Lift i) = ForRead

-- the same step with its client, file and block renamed
abbrev pub renamed : (ℕ → ℕ) → (ℕ → ℕ) → (ℕ → ℕ) → Step → Step
renamed client file block (Open m i f) = Open m (client i) (file f)
renamed client file block (Close m i f) = Close m (client i) (file f)
renamed client file block (Read i f b) = Read (client i) (file f) (block b)
renamed client file block (Write i f b v) = Write (client i) (file f) (block b) v
renamed client file block (Flush i f b) = Flush (client i) (file f) (block b)
renamed client file block (Answer i f) = Answer (client i) (file f)
renamed client file block Crash = Crash
renamed client file block (Report i) = Report (client i)
renamed client file block End = End
renamed client file block (Restart i) = Restart (client i)
renamed client file block (Embargo i f) = Embargo (client i) (file f)
renamed client file block (Lift i) = Lift (client i)

-- "Two steps on different files, neither of them a batch, image, crash, report, end, restart, embargo or lift, give the
-- same replies and the same final service in either order, refusals included" (document 02, Wish 12). "Wish 12 then
-- excludes steps that take or free a place" (Wish 13): each of the two, done first, leaves the number of free places.
use Rattle.std.specs.Prelude.{ℕ, ◌≡◌, Bool, true, false, List, eqb}
use Rattle.protocol.specs.declared.reply.Granting.{Granting}
use Rattle.protocol.specs.declared.reply.Reply.{Reply}
use Rattle.protocol.specs.declared.step.Step.{Step}
use Rattle.protocol.specs.Step.{Class, OnFile, OnBlock, OnTable, OnAll, class_of, file_of}
use Rattle.service.specs.declared.service.Service.{Service}
use Rattle.service.specs.Step.{step_of}

-- a step on one file: an open, a close, a flush or an answer, a read or a write
abbrev pub is_one : Class → Bool
is_one (OnFile f) = true
is_one (OnBlock i f) = true
is_one OnTable = false
is_one OnAll = false

abbrev pub on_one_file : Step → Bool
on_one_file x = is_one (class_of x)

-- what a step gets: its reply, the callbacks that go out, and the opens of others that are granted
pub record Got : Type 0 where
  pub reply : Reply
  pub calls : List ℕ
  pub grants : List Granting

abbrev pub gets : Service → Step → Got
gets s x = let o = step_of s x in record { reply = o.reply; calls = o.calls; grants = o.grants }

abbrev pub then : Service → Step → Service
then s x = (step_of s x).service

-- the step takes no place of the store, and frees none
abbrev pub LeavesFree : Service → Step → Type 0
LeavesFree s x = (then s x).server.free ≡ s.server.free

-- "the same replies and the same final service in either order"
pub record EitherOrder (s : Service) (x y : Step) : Type 0 where
  pub first : gets (then s y) x ≡ gets s x
  pub second : gets (then s x) y ≡ gets s y
  pub service : then (then s x) y ≡ then (then s y) x

-- for every service, hand-made ones and any sizes included, and any numbers in the steps
abbrev pub FilesCommute : Type 0
FilesCommute =
    (s : Service) (x y : Step)
    → on_one_file x ≡ true → on_one_file y ≡ true → eqb (file_of x) (file_of y) ≡ false
    → LeavesFree s x → LeavesFree s y
    → EitherOrder s x y

-- The store (document 02, Wish 13): which blocks are used, which are reserved, how many places are free, and what a step
-- does to them. z are the sizes in force; blocks past them are not looked at.
use Rattle.std.specs.Prelude.{ℕ, zero, suc, ◌+◌, ◌-◌, Bool, true, false, cond, not, ◌&&◌, ◌||◌, List, eqb, get_or, set}
use Rattle.sizes.specs.declared.sizes.Sizes.{Sizes}
use Rattle.sizes.specs.Sizes.{at_most, place, cell}
use Rattle.decision.specs.Callback.{writes_back}
use Rattle.decision.specs.Lists.{count, stored}
use Rattle.protocol.specs.declared.step.Step.{Step}
use Rattle.protocol.specs.declared.step.Step.TheVariants.{Open, Close, Read, Write, Flush, Answer, Crash}
use Rattle.protocol.specs.declared.step.Step.TheVariants.{Report, End, Restart, Embargo, Lift}
use Rattle.protocol.specs.Step.{Class, OnFile, OnBlock, OnTable, OnAll, class_of}
use Rattle.protocol.specs.Step.{TableAct, crashes, reports, ends, nothing, table_act}
use Rattle.protocol.specs.Entry.{call_to}
use Rattle.service.specs.declared.service.Service.{Service}
use Rattle.service.specs.Contents.{sizes_of, table_in, entry_at, reported_at, embargoed_at, client_at, dirty_at}
use Rattle.service.specs.Contents.{used_at, free_of, with_space}

-- some number below n has the property p
unfoldable pub any_below : ℕ → (ℕ → Bool) → Bool
any_below zero p = false
any_below (suc n) p = any_below n p || p n

-- the sum of g over the numbers below n
unfoldable pub sum_below : ℕ → (ℕ → ℕ) → ℕ
sum_below zero g = 0
sum_below (suc n) g = sum_below n g + g n

-- ---- counting blocks, in the lists of flags

-- block b of file f is dirty at one of the clients `who`
abbrev pub dirty_among : ℕ → (ℕ → Bool) → List Bool → ℕ → ℕ → Bool
dirty_among n who dirty f b = any_below n (λ i. who i && get_or dirty (cell i f b) false)

-- it is used, or dirty at one of them
abbrev pub is_counted : ℕ → (ℕ → Bool) → List Bool → List Bool → ℕ → ℕ → Bool
is_counted n who used dirty f b = get_or used (place f b) false || dirty_among n who dirty f b

-- how many blocks of file f are, and how many of all
abbrev pub counted_on : Sizes → (ℕ → Bool) → List Bool → List Bool → ℕ → ℕ
counted_on z who used dirty f = count z.blocks (is_counted z.clients who used dirty f)

abbrev pub counted_in : Sizes → (ℕ → Bool) → List Bool → List Bool → ℕ
counted_in z who used dirty = sum_below z.files (counted_on z who used dirty)

-- how many are used
abbrev pub used_in : Sizes → List Bool → ℕ
used_in z used = sum_below z.files (λ f. count z.blocks (λ b. get_or used (place f b) false))

-- how many are reserved by the clients `who`: dirty there, and not used
abbrev pub reserved_in : Sizes → (ℕ → Bool) → List Bool → List Bool → ℕ
reserved_in z who used dirty =
    sum_below z.files
    (λ f. count z.blocks (λ b. not (get_or used (place f b) false) && dirty_among z.clients who dirty f b))

-- client i has a dirty block that is not used
abbrev pub reserves_any : Sizes → List Bool → List Bool → ℕ → Bool
reserves_any z used dirty i =
    any_below z.files
    (λ f. any_below z.blocks (λ b. not (get_or used (place f b) false) && get_or dirty (cell i f b) false))

-- ---- in a service

-- a client without embargo
abbrev pub is_within : Service → ℕ → Bool
is_within s i = not (embargoed_at s i)

-- one whose reservations the server knows: "reports take their reservations again"
abbrev pub is_known : Service → ℕ → Bool
is_known s i = is_within s i && (not (table_in s).recovering || reported_at s i)

-- "Reserved: dirty blocks not used, at stations without embargo."
abbrev pub reserved_at : Service → ℕ → ℕ → Bool
reserved_at s f b = not (used_at s f b) && dirty_among (sizes_of s).clients (is_within s) s.dirty f b

-- "A write to a block neither used, reserved nor dirty there takes one free place"
abbrev pub takes_place : Service → Step → Bool
takes_place s (Open m i f) = false
takes_place s (Close m i f) = false
takes_place s (Read i f b) = false
takes_place s (Write i f b v) = not (used_at s f b || reserved_at s f b || dirty_at s i f b)
takes_place s (Flush i f b) = false
takes_place s (Answer i f) = false
takes_place s Crash = false
takes_place s (Report i) = false
takes_place s End = false
takes_place s (Restart i) = false
takes_place s (Embargo i f) = false
takes_place s (Lift i) = false

-- nothing is free
abbrev pub is_full : Service → Bool
is_full s = eqb (free_of s) 0

-- how many blocks are used, or reserved by a client that the server knows of: of the file that a step is on, or of all
abbrev pub taken_in : Service → Class → ℕ
taken_in s (OnFile f) = counted_on (sizes_of s) (is_known s) s.server.used s.dirty f
taken_in s (OnBlock i f) = counted_on (sizes_of s) (is_known s) s.server.used s.dirty f
taken_in s OnTable = counted_in (sizes_of s) (is_known s) s.server.used s.dirty
taken_in s OnAll = counted_in (sizes_of s) (is_known s) s.server.used s.dirty

abbrev pub used_blocks : Service → ℕ
used_blocks s = used_in (sizes_of s) s.server.used

-- ---- what an accepted step does

-- "Used: blocks some write has reached at the server.": a write without permission, a flush, and each block that an
-- answer sends
abbrev pub used_after : Service → Step → List Bool
used_after s (Open m i f) = s.server.used
used_after s (Close m i f) = s.server.used
used_after s (Read i f b) = s.server.used
used_after s (Write i f b v) =
    cond (client_at s i f).opens.caching s.server.used (set s.server.used (place f b) true)
used_after s (Flush i f b) = set s.server.used (place f b) true
used_after s (Answer i f) =
    let sends = writes_back (call_to (sizes_of s).clients (entry_at s f) i) in
    stored (sizes_of s).blocks (λ b. place f b) (λ b. used_at s f b || (sends && dirty_at s i f b)) s.server.used
used_after s Crash = s.server.used
used_after s (Report i) = s.server.used
used_after s End = s.server.used
used_after s (Restart i) = s.server.used
used_after s (Embargo i f) = s.server.used
used_after s (Lift i) = s.server.used

abbrev is_crash : TableAct → Bool
is_crash crashes = true
is_crash (reports i) = false
is_crash ends = false
is_crash nothing = false

-- "Free places, kept within 0 and the size, are counted up and down by history": where t places were taken before and t'
-- are after
abbrev pub recounted : ℕ → ℕ → ℕ → ℕ → ℕ
recounted store free t t' = cond (eqb t t') free (at_most store ((at_most store free + t) - t'))

-- "A crash keeps used blocks and makes free the size less them"; s' is the service after the step
abbrev pub free_after : Service → Step → Service → ℕ
free_after s x s' =
    cond (is_crash (table_act x)) ((sizes_of s).store - used_blocks s)
    (recounted (sizes_of s).store s.server.free (taken_in s (class_of x)) (taken_in s' (class_of x)))

-- s' is what the step leaves but for the store
unfoldable pub spaced : Service → Step → Bool → Service → Service
spaced s x refusal s' =
    let used = cond refusal s.server.used (used_after s x) in
    with_space s' used (cond refusal s.server.free (free_after s x (with_space s' used s.server.free)))

-- What the invariant of the service says of the reference memory's histories, as the ledger needs it. Assumes nothing.
use Prim.Native.Nat.{ℕ, ◌<◌}
use mathlib.Core.Path.{◌≡◌, refl, sym, ap, ◌∙◌}
use mathlib.Core.Bool.{Bool, true, false, cond, not, ◌&&◌}
use borrow.Author.Tests.{lt-ltb}
use Rattle.sizes.specs.declared.sizes.Sizes.{Sizes}
use Rattle.sizes.specs.Sizes.{in_force}
use Rattle.protocol.proofs.Invariant.{Booked}
use Rattle.service.specs.declared.service.Service.{Service}
use Rattle.service.specs.Contents.{embargoed_at, dirty_at}
use Rattle.service.specs.Demand3.{Memory, Recovery, none, since}
use Rattle.service.proofs.Views.{view_of}
use Rattle.service.proofs.Reached.{Reached}

-- of every block in force: only one client has writes at risk, and the block is dirty just there
abbrev pub AllBooked : Sizes → Service → Memory → Type 0
AllBooked z s m =
    (f b : ℕ) → f < z.files → b < z.blocks → Booked (view_of z s f b).block (view_of z s f b).dirty (m f b)

-- what the view of a block shows of its dirty flags: those of the clients without embargo
pub shown_dirty :
    (z : Sizes) (s : Service) (i f b : ℕ)
    → i < z.clients
    → (dirty_at s i f b && not (embargoed_at s i)) ≡ (view_of z s f b).dirty i
shown_dirty z s i f b below =
    shown (dirty_at s i f b) (embargoed_at s i)
    ∙ sym (ap (λ t. cond (t && not (embargoed_at s i)) (dirty_at s i f b) false) (lt-ltb i z.clients below))
  where
    shown : (d e : Bool) → (d && not e) ≡ cond (true && not e) d false
    shown true true = refl
    shown true false = refl
    shown false true = refl
    shown false false = refl

pub all_booked :
    (z : Sizes) (s : Service) (m : Memory) (r : Recovery) → Reached z s m r → AllBooked (in_force z) s m
all_booked z s m none h f b hf hb = (h.stands.views f b hf hb).booked
all_booked z s m (since t) h f b hf hb = (h.stands.views f b hf hb).booked

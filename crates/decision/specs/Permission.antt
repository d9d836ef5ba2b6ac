-- The permission to cache that a grant gives.
use Rattle.std.specs.Prelude.{ℕ, Bool, cond, not, ◌&&◌, ◌||◌, ltb}
use Rattle.records.specs.declared.record.Mode.{Mode}
use Rattle.records.specs.declared.record.ClientRecord.{ClientRecord}
use Rattle.decision.specs.declared.state.Property.TheVariants.{Open, Uncached, Writing}
use Rattle.records.specs.Record.{is_write, keeps_permission}
use Rattle.decision.specs.State.{tally, others}

-- "Save where permission is kept as above, the opener may cache unless some other station is open with writers, or
-- this is a write open with some other station open, or some station open before the grant, the opener included, may
-- not cache."
unfoldable pub permission_at_grant : ℕ → (ℕ → ClientRecord) → ℕ → Mode → Bool
permission_at_grant n r opener mode =
    cond (keeps_permission mode (r opener)) (r opener).caching
    (not (ltb 0 (others n r Writing opener)
    || (is_write mode && ltb 0 (others n r Open opener))
    || ltb 0 (tally n r Uncached)))

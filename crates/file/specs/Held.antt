-- What a step on a file leaves in the lent arrays.
use Rattle.std.specs.Prelude.{ℕ, ◌≡◌, true, List}
use Rattle.protocol.specs.declared.reply.Reply.{Reply}
use Rattle.protocol.specs.Reply.{is_refused}
use Rattle.blocks.specs.declared.stores.Stores.{Stores}
use Rattle.words.specs.Rows.{Puts}
use Rattle.file.specs.FileStep.{FileAfter}

-- The table t holds, in row f, what the step has left, and has every other row as in the table t₀ that came. A refusal
-- leaves every word.
pub record Holds
    (after : FileAfter) (f : ℕ) (t₀ t : List ℕ) (reply : Reply) (calls : List ℕ) (stores : Stores) : Type 0 where
  pub puts : Puts f after.file t₀ t
  pub reply_after : reply ≡ after.reply
  pub calls_after : calls ≡ after.calls
  pub stores_after : stores ≡ after.stores
  pub refused : is_refused reply ≡ true → t ≡ t₀

-- The table t holds, in row f, what is left where the server forgets a client or the client drops what it has, and has
-- every other row as in the table t₀ that came.
pub record Leaves
    (after : FileAfter) (f : ℕ) (t₀ t : List ℕ) (reply : Reply) (stores : Stores) : Type 0 where
  pub puts : Puts f after.file t₀ t
  pub reply_after : reply ≡ after.reply
  pub stores_after : stores ≡ after.stores

-- Reads and writes of one block. They look at the sizes in force z, at whether the client is under embargo, the server
-- recovers and the client has reported, at the client's own side of the file, at whether a write takes a free place and
-- whether none is free, and at the block and the copies of it among all.
use Rattle.std.specs.Prelude.{ℕ, ◌≡◌, Bool, List}
use Rattle.sizes.specs.declared.sizes.Sizes.{Sizes}
use Rattle.protocol.specs.declared.client.ClientFile.{ClientFile}
use Rattle.protocol.specs.declared.reply.Reply.{Reply}
use Rattle.protocol.specs.declared.reply.Reply.TheVariants.{Value, Refused, Done}
use Rattle.protocol.specs.declared.step.Step.{Step}
use Rattle.protocol.specs.Step.{BlockAct, reads, writes, nothing, block_act}
use Rattle.protocol.specs.Refusal.{Test, tested, read_tests, write_tests}
use Rattle.blocks.specs.declared.stores.Stores.{Stores}
use Rattle.blocks.specs.Stores.{held_in, value_read, read_stores, written_stores}

-- what a step leaves: the blocks and copies, and the reply
pub record BlockAfter : Type 0 where
  pub stores : Stores
  pub reply : Reply

-- "A refusal gives only its number; server, stations and every lent buffer stay as they came."
abbrev pub unless_tested : List Test → Stores → BlockAfter → BlockAfter
unless_tested ts a after = tested ts (λ k. record { stores = a; reply = Refused k }) after

abbrev pub after_read : ClientFile → Stores → ℕ → ℕ → ℕ → BlockAfter
after_read own a i f b =
    record {
      stores = read_stores own.opens.caching i f b a;
      reply = Value (value_read own.opens.caching i f b a);
    }

abbrev pub after_write : ClientFile → Stores → ℕ → ℕ → ℕ → ℕ → BlockAfter
after_write own a i f b v = record { stores = written_stores own.opens.caching i f b v a; reply = Done }

abbrev pub acted : Sizes → Bool → Bool → Bool → ClientFile → Bool → Bool → Stores → BlockAct → BlockAfter
acted z embargoed recovering reported own takes full a (reads i f b) =
    unless_tested (read_tests z embargoed recovering reported own (held_in a i f b) i f b) a (after_read own a i f b)
acted z embargoed recovering reported own takes full a (writes i f b v) =
    unless_tested (write_tests z embargoed recovering reported own takes full i f b v) a (after_write own a i f b v)
acted z embargoed recovering reported own takes full a nothing = record { stores = a; reply = Done }

-- a step that is no read and no write leaves all as it came
unfoldable pub block_step : Sizes → Bool → Bool → Bool → ClientFile → Bool → Bool → Stores → Step → BlockAfter
block_step z embargoed recovering reported own takes full a x =
    acted z embargoed recovering reported own takes full a (block_act x)

-- what the program's step replies, and what it leaves in the lent arrays, are what the definition says
pub record Leaves
    (after : BlockAfter) (reply : Reply) (stores : Stores) : Type 0 where
  pub reply_after : reply ≡ after.reply
  pub stores_after : stores ≡ after.stores

-- A client's read and write of one block: what is left of its side, of its copy and of the server's block, and the
-- reply. What the whole service makes of them is in crates/access/specs/BlockStep.antt.
use Rattle.std.specs.Prelude.{ℕ, cond, ◌&&◌, ◌||◌}
use Rattle.protocol.specs.declared.client.Accessed.{Accessed}
use Rattle.protocol.specs.declared.client.BlockCopy.{BlockCopy}
use Rattle.protocol.specs.declared.client.ClientFile.{ClientFile}
use Rattle.protocol.specs.declared.reply.Reply.TheVariants.{Value, Done}

-- "Read: a station that may cache gives the held block, or fetches and holds it. Without permission the server's block
-- is given and not held."
abbrev pub client_read : ClientFile → BlockCopy → ℕ → Accessed
client_read own copy block =
    let value = cond (own.opens.caching && copy.held) copy.value block in
    record {
      side = own;
      copy =
          record {
            value = cond own.opens.caching value copy.value;
            held = own.opens.caching || copy.held;
            dirty = copy.dirty;
          };
      block = block;
      reply = Value value;
    }

-- "Write: with permission the copy is written, held and dirty; without, the server's block."
abbrev pub client_written : ClientFile → BlockCopy → ℕ → ℕ → Accessed
client_written own copy block v =
    record {
      side = own;
      copy =
          record {
            value = cond own.opens.caching v copy.value;
            held = own.opens.caching || copy.held;
            dirty = own.opens.caching || copy.dirty;
          };
      block = cond own.opens.caching block v;
      reply = Done;
    }

-- Which steps need the server. Refusals 5 and 20 both go by it: a step that needs the server cannot be done while the
-- server recovers, nor for a client that it has put under embargo.
use Rattle.std.specs.Prelude.{Bool, true, false, ◌||◌}
use Rattle.protocol.specs.declared.client.ClientFile.{ClientFile}
use Rattle.protocol.specs.declared.step.Step.{Step}
use Rattle.protocol.specs.declared.step.Step.TheVariants.{Open, Close, Read, Write, Flush, Answer, Crash}
use Rattle.protocol.specs.declared.step.Step.TheVariants.{Report, End, Restart, Embargo, Lift}
use Rattle.protocol.specs.Client.{no_client, read_needs_server, write_needs_server}

-- A read needs the server "unless the station is open, may cache and holds the block", a write "unless it has writers
-- and may cache"; "any but a read or write does" (document 02, Wish 9). A write that takes a free place, "cached too, needs
-- the server" (Wish 13). `own` is the client's side of the file, `held` says whether it holds the block, and `takes`
-- whether the step takes a place.
abbrev pub needs_server : Step → ClientFile → Bool → Bool → Bool
needs_server (Open m i f) own held takes = true
needs_server (Close m i f) own held takes = true
needs_server (Read i f b) own held takes = read_needs_server own held
needs_server (Write i f b v) own held takes = write_needs_server own || takes
needs_server (Flush i f b) own held takes = true
needs_server (Answer i f) own held takes = true
needs_server Crash own held takes = true
needs_server (Report i) own held takes = true
needs_server End own held takes = true
needs_server (Restart i) own held takes = true
needs_server (Embargo i f) own held takes = true
needs_server (Lift i) own held takes = true

-- a step that is no read and no write needs it whatever the client has
abbrev pub always_needs : Step → Bool
always_needs x = needs_server x no_client false false

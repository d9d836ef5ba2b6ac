-- What stands where in the service. The definitions of the steps look at it through these alone.
use Rattle.std.specs.Prelude.{ℕ, Bool, false, List, get_or, set}
use Rattle.sizes.specs.declared.sizes.Sizes.{Sizes}
use Rattle.sizes.specs.Sizes.{in_force, at_most, place}
use Rattle.protocol.specs.declared.client.ClientFile.{ClientFile}
use Rattle.protocol.specs.declared.client.Sides.{Sides}
use Rattle.protocol.specs.declared.entry.Entry.{Entry}
use Rattle.protocol.specs.Client.{side_of}
use Rattle.blocks.specs.declared.stores.Stores.{Stores}
use Rattle.blocks.specs.Stores.{block_in, copy_in, held_in, dirty_in}
use Rattle.protocol.specs.declared.shared.SharedFile.{SharedFile}
use Rattle.table.specs.declared.table.Table.{Table}
use Rattle.table.specs.TableStep.{entry_in, sides_in, is_reported, is_embargoed}
use Rattle.service.specs.declared.service.Service.{Service}

-- the sizes in force
abbrev pub sizes_of : Service → Sizes
sizes_of s = in_force s.sizes

abbrev pub table_in : Service → Table
table_in s = s.server.table

-- the server's entry of file f, and its block b
abbrev pub entry_at : Service → ℕ → Entry
entry_at s f = entry_in (table_in s) f

abbrev pub stores_of : Service → Stores
stores_of s = record { blocks = s.server.blocks; copies = s.copies; held = s.held; dirty = s.dirty }

abbrev pub block_at : Service → ℕ → ℕ → ℕ
block_at s f b = block_in (stores_of s) f b

-- whether the server's block b of file f is used, and how many places are free: "a hand-made one above reads as the size"
abbrev pub used_at : Service → ℕ → ℕ → Bool
used_at s f b = get_or s.server.used (place f b) false

abbrev pub free_of : Service → ℕ
free_of s = at_most (sizes_of s).store s.server.free

-- whether client i has reported
abbrev pub reported_at : Service → ℕ → Bool
reported_at s i = is_reported (table_in s).reported i

-- whether client i is under embargo
abbrev pub embargoed_at : Service → ℕ → Bool
embargoed_at s i = is_embargoed (table_in s).embargoed i

-- the clients' sides of file f, client i's, and its copy of block b
abbrev pub sides_at : Service → ℕ → Sides
sides_at s f = sides_in s.clients f

abbrev pub client_at : Service → ℕ → ℕ → ClientFile
client_at s i f = side_of (sides_at s f) i

abbrev pub copy_at : Service → ℕ → ℕ → ℕ → ℕ
copy_at s i f b = copy_in (stores_of s) i f b

abbrev pub held_at : Service → ℕ → ℕ → ℕ → Bool
held_at s i f b = held_in (stores_of s) i f b

abbrev pub dirty_at : Service → ℕ → ℕ → ℕ → Bool
dirty_at s i f b = dirty_in (stores_of s) i f b

-- file f at both sides
abbrev pub file_at : Service → ℕ → SharedFile
file_at s f = record { entry = entry_at s f; sides = sides_at s f }

-- the service with other used blocks and another number of free places
abbrev pub with_space : Service → List Bool → ℕ → Service
with_space s used free =
    record {
      sizes = s.sizes;
      server = record { table = table_in s; blocks = s.server.blocks; used = used; free = free };
      clients = s.clients;
      copies = s.copies;
      held = s.held;
      dirty = s.dirty;
    }

-- the service with other blocks and copies, with another table, and with another file f
abbrev pub with_stores : Service → Stores → Service
with_stores s a =
    record {
      sizes = s.sizes;
      server = record { table = table_in s; blocks = a.blocks; used = s.server.used; free = s.server.free };
      clients = s.clients;
      copies = a.copies;
      held = a.held;
      dirty = a.dirty;
    }

abbrev pub with_table : Service → Table → Service
with_table s t =
    record {
      sizes = s.sizes;
      server = record { table = t; blocks = s.server.blocks; used = s.server.used; free = s.server.free };
      clients = s.clients;
      copies = s.copies;
      held = s.held;
      dirty = s.dirty;
    }

abbrev pub with_file : Service → ℕ → SharedFile → Stores → Service
with_file s f x a =
    record {
      sizes = s.sizes;
      server =
          record {
            table =
                record {
                  files = set (table_in s).files f x.entry;
                  recovering = (table_in s).recovering;
                  reported = (table_in s).reported;
                  embargoed = (table_in s).embargoed;
                };
            blocks = a.blocks;
            used = s.server.used;
            free = s.server.free;
          };
      clients = set s.clients f x.sides;
      copies = a.copies;
      held = a.held;
      dirty = a.dirty;
    }

-- The fresh service: "counts and labels 0, versions 1, server blocks and copies zero, none held or dirty; no
-- permission, mark, last writer, wait, call or report; not recovering". No block is used, and every place is free: the
-- number is that of the largest store, which reads as the size in force.
use Rattle.std.specs.Prelude.{false, replicate}
use Rattle.sizes.specs.declared.sizes.Sizes.{Sizes}
use Rattle.sizes.specs.Sizes.{max_clients, max_files, max_places, max_cells}
use Rattle.protocol.specs.Entry.{fresh_entry}
use Rattle.protocol.specs.Client.{no_client}
use Rattle.service.specs.declared.service.Service.{Service}

-- "chosen when the service starts": of any sizes
unfoldable pub fresh : Sizes → Service
fresh z =
    record {
      sizes = z;
      server =
          record {
            table =
                record {
                  files = replicate max_files (fresh_entry max_clients);
                  recovering = false;
                  reported = replicate max_clients false;
                  embargoed = replicate max_clients false;
                };
            blocks = replicate max_places 0;
            used = replicate max_places false;
            free = max_places;
          };
      clients = replicate max_files (record { of = replicate max_clients no_client });
      copies = replicate max_cells 0;
      held = replicate max_cells false;
      dirty = replicate max_cells false;
    }

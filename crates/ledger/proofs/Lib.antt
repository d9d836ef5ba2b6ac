-- The laws of the ledger: what the code notes; the lines of one block, and what stands in the ledger after a line; that
-- the lines name the writes of the history; that wrapped numbers make no difference; that a held copy was fetched or
-- written; what the invariant of the service says; the promise on every list of lines; and examples.
pub mod Noting
pub mod BlockLines
pub mod Entries
pub mod LinesAfter
pub mod Naming
pub mod Wrapping
pub mod Holding
pub mod Aside
pub mod AllBooked
pub mod Provenance
pub mod Examples

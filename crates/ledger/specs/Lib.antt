-- The ledger, in reading order: what a line makes of it and what it tells of a read; refusals, counted; both beside the
-- service; what is promised of what is told, for every list of lines; and the ledger with wrapped numbers, as the code
-- keeps it.
pub mod Ledger
pub mod Refusals
pub mod Annotated
pub mod Provenance
pub mod Wrapped

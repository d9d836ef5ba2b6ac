-- The proofs about a batch, in reading order: examples by evaluation, what the loop over a list has done, and Demand 3
-- with batches.
pub mod Examples
pub mod Trying
pub mod Demand3
pub mod Promised

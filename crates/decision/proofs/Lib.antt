-- The laws of counting and storing, and of the order of callbacks, that the proofs of this
-- crate, and of those above it, share.
pub mod Counting
pub mod Agreeing
pub mod Beyond
pub mod Storing
pub mod CallOrder
pub mod Finding
pub mod Chains

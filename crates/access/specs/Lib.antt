-- Reads and writes of one block.
pub mod BlockStep

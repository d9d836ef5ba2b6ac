-- A batch, in reading order.
pub mod Batch
pub mod Demand3

-- The laws behind reads and writes.
pub mod Accessed

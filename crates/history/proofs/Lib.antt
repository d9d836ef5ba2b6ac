-- The proof of what is promised of every history, in reading order.
pub mod Along
pub mod Reading
pub mod Standby
pub mod Moving
pub mod Histories

-- The values that both sides keep, in reading order.
pub mod Version
pub mod Record

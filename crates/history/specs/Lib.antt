-- Histories, and what is promised of each, in reading order.
pub mod Event
pub mod Past
pub mod Promises

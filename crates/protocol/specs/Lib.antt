-- The protocol of one file, in reading order; crate records has versions and client records, crate decision the sizes
-- and what is decided from the records.
pub mod Copy
pub mod Book
pub mod Reply
pub mod Step
pub mod Entry
pub mod Client
pub mod Clash
pub mod Access
pub mod Needs
pub mod Refusal
pub mod Refused
pub mod Table

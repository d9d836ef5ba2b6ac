-- What is said of a step, in reading order: phrases, what is said of an accepted step, of the store, of a refusal, and of a
-- report that clashes.
pub mod Phrase
pub mod Accepted
pub mod Places
pub mod Refusal
pub mod Clash

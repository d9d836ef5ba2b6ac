-- The laws that the proofs of this crate, and of those above it, share; and the theorem of one file, which `Kept`
-- proves.
pub mod CopyCheck
pub mod Tested
pub mod Refused
pub mod OtherKinds
pub mod StepNumbers
pub mod Seen
pub mod View
pub mod Promises
pub mod Invariant
pub mod Kept

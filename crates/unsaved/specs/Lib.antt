-- What an image does not have.
pub mod Unsaved

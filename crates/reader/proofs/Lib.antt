-- The laws that the functions' proofs cite, by the definition that they read by.
pub mod Numbers
pub mod Shapes
pub mod Words
pub mod Whole
pub mod Settings
pub mod FirstSettings
pub mod LineFeeds

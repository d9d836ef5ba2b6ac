-- The reading of an image, in reading order.
pub mod Decoded
pub mod Reading
pub mod Exact

-- The image of the server, in reading order.
pub mod Bytes
pub mod Image
pub mod Fits
pub mod Writing

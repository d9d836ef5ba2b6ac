pub mod FirstLine
pub mod Offsets

-- Steps on different files, in reading order: what is promised of two of them, and of a list.
pub mod Apart
pub mod Reordered
pub mod Agree

-- The laws behind the functions that write the picture, and examples of it.
pub mod Parts
pub mod Examples

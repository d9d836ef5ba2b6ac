-- The laws behind the places of blocks and copies.
pub mod Wrapped

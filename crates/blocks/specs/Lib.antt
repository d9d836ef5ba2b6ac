-- The blocks of the server and their copies.
pub mod Stores

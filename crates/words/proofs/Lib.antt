-- The laws of the words and of the rows, and of what is said.
pub mod Packing
pub mod Listing
pub mod Places
pub mod Changing
pub mod Filling
pub mod OwnRow
pub mod SaidWords
pub mod SaidGranting
pub mod SaidGrants
pub mod Making

-- The laws behind the functions that write the phrases.
pub mod Grants
pub mod Calls
pub mod Lists
pub mod Losses
pub mod Names

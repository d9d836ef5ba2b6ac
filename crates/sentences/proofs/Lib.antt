-- The laws behind the functions that write the sentences, and an example of each sentence.
pub mod Names
pub mod Clashes
pub mod Examples

-- The laws of texts in a buffer, and the texts as the functions put them together.
pub mod Buffers
pub mod Digits
pub mod Replies
pub mod SaidLines
pub mod Summaries

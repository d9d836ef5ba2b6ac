-- What the lent words mean: those of the table, its rows, and those that say a reply.
pub mod Words
pub mod Rows
pub mod Said

-- The laws behind the steps on the whole table, and of what they leave in the lent rows.
pub mod Steps
pub mod ChangedRow
pub mod SweptRows

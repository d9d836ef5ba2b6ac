-- The steps on the whole table, how the program takes them, and what they leave in the lent rows.
pub mod Clash
pub mod TableStep
pub mod Recovery
pub mod Swept

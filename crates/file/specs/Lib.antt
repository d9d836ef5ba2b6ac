-- The steps on one file, and what they leave in the lent arrays.
pub mod FileStep
pub mod Held

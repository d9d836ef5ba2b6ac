-- The laws of choosing that every crate shares, and of the sizes in force.
pub mod Choosing
pub mod InForce

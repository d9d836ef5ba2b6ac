-- The sizes of the service, and what stands where in its arrays.
pub mod Sizes

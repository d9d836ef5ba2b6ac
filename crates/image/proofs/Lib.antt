-- The laws of sections and numbers in bytes, the image as the functions put it together, and that a service which a
-- program holds fits its fields.
pub mod SectionLaws
pub mod Listing
pub mod HeldFits
pub mod Outcomes
pub mod Waiting
pub mod Examples

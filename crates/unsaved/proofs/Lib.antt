-- Examples of the lines, and which program tells them.
pub mod Examples
pub mod Named

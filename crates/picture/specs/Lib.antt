-- What is told of the service at the end.
pub mod Picture

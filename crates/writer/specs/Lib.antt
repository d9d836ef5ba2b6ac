pub mod Buffer
pub mod Said
pub mod Digits

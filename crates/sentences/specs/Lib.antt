-- What is said of each line, in reading order: what a sentence looks at, and what is said of a line.
pub mod Scene
pub mod Explained

-- The laws behind the explainer: the scene that lent arrays hold, a line that is told, and the theorem of its run.
pub mod Wholes
pub mod Scenes
pub mod Explaining
pub mod Blindness
pub mod Run

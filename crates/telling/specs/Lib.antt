-- Lines told one after the other, for any kind of state: into a buffer, in a turn, in a session of turns, in a run.
pub mod Lines
pub mod Reached
pub mod Turn
pub mod Session
pub mod Run

-- The player, on the service that lent arrays hold: the lines of a buffer, a turn, a session of turns, and a run.
pub mod Lines
pub mod Turn
pub mod Session
pub mod Run

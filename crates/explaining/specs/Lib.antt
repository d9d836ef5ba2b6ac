-- The explainer, on the service that lent arrays hold and what is noted beside it: the lines of a buffer, a turn, a
-- session of turns, and a run.
pub mod Lines
pub mod Turn
pub mod Session
pub mod Run

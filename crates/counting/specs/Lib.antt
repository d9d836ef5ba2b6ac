-- The counter, in reading order: the trace of a line; the lines that are printed; the lines of a buffer, a turn, a session
-- of turns and a run, on the service and the totals that lent arrays hold; and the numbers of a whole run.
pub mod LineTrace
pub mod Printed
pub mod Lines
pub mod Turn
pub mod Session
pub mod Run
pub mod Traffic

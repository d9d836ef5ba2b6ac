-- The traffic of a session, in reading order: in which columns a record counts, and the totals after a trace; how many
-- records there are of a station and column; and the records of a step.
pub mod Counted
pub mod Number
pub mod Records

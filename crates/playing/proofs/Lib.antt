-- The player's next line, the end of a turn, and the theorem of its run.
pub mod FirstLines
pub mod Playing
pub mod Ending
pub mod Run

-- The laws of lines, turns, sessions and runs, for any kind of state.
pub mod Resting
pub mod Reaching
pub mod LineByLine
pub mod Turning
pub mod Flags
pub mod Completing
pub mod Parts
pub mod Legs
pub mod WholeRun

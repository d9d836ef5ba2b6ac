-- The step file and what is said of it, in reading order: texts, the grammar of a line, the settings line, how a step
-- is written, the reply lines, the summary, the lines of an input and what is said of them, the whole output for a
-- whole input, and the line at an offset.
pub mod Text
pub mod Grammar
pub mod Setting
pub mod StepText
pub mod Line
pub mod Summary
pub mod Transcript
pub mod Played
pub mod Input

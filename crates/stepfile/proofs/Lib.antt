-- The examples of document 01, settings lines, and the summary of hand-made entries, by evaluation; the order of the callbacks in
-- a line; the three theorems on steps and their texts (ReadsBack, AsWritten, Longest); and the laws of splitting an input into
-- lines.
pub mod Lines
pub mod WholeCase
pub mod SetLines
pub mod HandMade
pub mod CallTexts
pub mod PrintedCalls
pub mod Digits
pub mod Decimals
pub mod ReadsBack
pub mod AsWritten
pub mod Longest
pub mod Splitting
pub mod Transcripts
pub mod LongLines
pub mod NoSteps
pub mod FirstLines

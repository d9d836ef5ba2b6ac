-- What the proofs of this crate share: the totals of a station, raised one after the other; the totals after a trace,
-- which count its records; what was said, read as records; records stored one after the other; and the trace of a step.
pub mod Raising
pub mod Numbers
pub mod Told
pub mod Noting
pub mod Traced

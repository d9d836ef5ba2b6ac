-- What the proofs of this crate share: how the totals are written, and that what is printed looks at no others; a line
-- that is counted; sizes that stay; the totals of all traces; and the whole run.
pub mod Printing
pub mod Alike
pub mod Counting
pub mod SizesStay
pub mod Traces
pub mod Run
pub mod WholeCase

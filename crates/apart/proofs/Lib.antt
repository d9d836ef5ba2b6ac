-- What leads to the promises, in reading order: lists, and services, that agree in part; what a step on a file, and one on a
-- block, looks at and leaves; two steps, and lists of them; and what the promises leave out.
pub mod Agreeing
pub mod Services
pub mod FileStores
pub mod FileLocal
pub mod BlockLocal
pub mod StoreLocal
pub mod Commuting
pub mod Reordering
pub mod Meeting

-- The service, in reading order.
pub mod Contents
pub mod Embargo
pub mod Space
pub mod Step
pub mod Lent
pub mod Served
pub mod Counted
pub mod Fresh
pub mod Demand3
pub mod Plain
pub mod NothingBehind
pub mod Aside
pub mod Reports
pub mod Store

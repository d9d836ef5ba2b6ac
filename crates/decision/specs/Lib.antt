-- What is decided from the records of one file, in reading order: counting and storing, the state, the
-- callbacks that an open causes, and the permission that a grant gives.
pub mod Lists
pub mod State
pub mod Callback
pub mod Permission

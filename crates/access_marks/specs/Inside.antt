-- Private: what no clause of a public call names.
pub mod Accessed
pub mod Calls
pub mod Changes
pub mod Following
pub mod Logging
pub mod Missing
pub mod Words

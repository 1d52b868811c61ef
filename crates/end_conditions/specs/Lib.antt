pub mod Finals
pub mod Connectives
pub mod Truths

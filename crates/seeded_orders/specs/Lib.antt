pub mod Ranks
pub mod Orders
pub mod Choices

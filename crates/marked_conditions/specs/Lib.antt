pub mod Marked
pub mod Needs

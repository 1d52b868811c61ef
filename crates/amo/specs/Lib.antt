pub mod Functions
pub mod Parts
pub mod Amos
pub mod Names

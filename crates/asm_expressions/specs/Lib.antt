pub mod Symbols
pub mod Operators
pub mod Parts
pub mod Values

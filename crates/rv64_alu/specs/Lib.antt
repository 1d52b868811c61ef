pub mod Words
pub mod Functions
pub mod Table
pub mod Comparisons
pub mod Loads
pub mod Immediates

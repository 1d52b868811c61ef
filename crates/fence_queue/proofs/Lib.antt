pub mod Tables
pub mod Queue
pub mod Kept
pub mod Positions
pub mod Copies

pub mod Timing
pub mod Inside

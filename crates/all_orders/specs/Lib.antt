pub mod Verdicts
pub mod Inside

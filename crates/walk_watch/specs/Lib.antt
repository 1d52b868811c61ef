pub mod Logged
pub mod Inside

pub mod Columns
pub mod Inside
pub mod LineText
pub mod Sinks
pub mod Words

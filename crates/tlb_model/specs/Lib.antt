pub mod Fences
pub mod Entries
pub mod Words
pub mod Contents
pub mod Acts
pub mod Inside

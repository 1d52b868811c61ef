pub mod Keeping
pub mod Threaded
pub mod Inside

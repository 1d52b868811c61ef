pub mod States
pub mod Harts
pub mod Transitions
pub mod Interruptible
pub mod Inside

pub mod Queues
pub mod Positions
pub mod Inside

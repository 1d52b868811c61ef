pub mod Inside
pub mod Lines
pub mod Missing
pub mod Misfits
pub mod Statuses

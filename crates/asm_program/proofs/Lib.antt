pub mod More
pub mod Stops
pub mod StringBytes
pub mod Relation
pub mod Entry

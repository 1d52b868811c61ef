pub mod Picking
pub mod Ordering
pub mod Taking
pub mod Choosing
pub mod Ranking

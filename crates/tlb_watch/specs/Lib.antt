pub mod Sets
pub mod Effects
pub mod QuietOps
pub mod Watched
pub mod Tracked
pub mod Kept
pub mod Deciding

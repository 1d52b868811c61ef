pub mod EndLines
pub mod Kept
pub mod Ran
pub mod Recorded
pub mod RunAccepted

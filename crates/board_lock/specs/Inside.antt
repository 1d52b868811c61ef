-- Private: what no clause of a public call names.
pub mod Bells
pub mod Kept
pub mod Rests
pub mod Settling
pub mod Waking

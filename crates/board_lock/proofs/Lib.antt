pub mod Actors
pub mod Places
pub mod Resting
pub mod Sifting
pub mod Growing
pub mod Ops
pub mod Sums

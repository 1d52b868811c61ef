pub mod Parts
pub mod Spots
mod WorkedDistances

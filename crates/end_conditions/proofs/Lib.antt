pub mod Depth
mod WorkedTruths

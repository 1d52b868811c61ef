pub mod Placing
mod WorkedAmos

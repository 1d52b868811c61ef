pub mod WorkedTypes

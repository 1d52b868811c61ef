pub mod Caches
pub mod Known
pub mod WorkedTables

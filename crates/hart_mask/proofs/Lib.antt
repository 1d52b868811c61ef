pub mod Below
pub mod Sets
pub mod Places
pub mod Changes
pub mod Words
pub mod Naming
pub mod WorkedLists

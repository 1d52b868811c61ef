pub mod NamesFound
pub mod Packed

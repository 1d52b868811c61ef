pub mod Addresses
pub mod Packing
pub mod Words
pub mod MapsLaws
pub mod PageLaw
pub mod WorkedMaps
pub mod ClearWords
pub mod Marks

pub mod Asked
pub mod FileWords
pub mod RunWords

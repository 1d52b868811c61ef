pub mod DigitValues
pub mod LinesOf
pub mod Numerals
pub mod Spacing
pub mod Spelling
pub mod WordsIn

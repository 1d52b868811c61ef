pub mod Arguments
pub mod Decimal
pub mod DigitPairs
pub mod Hex
pub mod HexText
pub mod PrintedLines

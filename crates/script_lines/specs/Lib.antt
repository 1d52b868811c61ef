pub mod Agreeing
pub mod KeptLines
pub mod Names
pub mod Packing

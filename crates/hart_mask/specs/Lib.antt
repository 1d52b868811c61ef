pub mod Ids
pub mod Bits
pub mod HartList
pub mod Inside

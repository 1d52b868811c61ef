-- Private: what no clause of a public call names.
pub mod Drafts
pub mod HexDigits
pub mod OpenBlocks
pub mod PlainLines
pub mod Progress

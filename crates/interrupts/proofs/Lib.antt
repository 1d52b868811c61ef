pub mod Members
pub mod Listing

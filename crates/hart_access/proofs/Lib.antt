pub mod Past
pub mod Used

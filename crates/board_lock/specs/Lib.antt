pub mod Events
pub mod Seats
pub mod Views
pub mod Coming
pub mod Splits
pub mod Receipts
pub mod Rooms
pub mod Inside

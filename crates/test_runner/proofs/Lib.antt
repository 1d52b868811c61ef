pub mod Lists
pub mod Meeting
pub mod Printing
pub mod Records
pub mod Reports
pub mod Trying

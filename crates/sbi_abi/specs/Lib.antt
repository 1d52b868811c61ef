pub mod Calls
pub mod Errors
pub mod SuspendTypes
pub mod ResetTypes

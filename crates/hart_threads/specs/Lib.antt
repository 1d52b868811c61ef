pub use Rattle.guest_programs.specs.Programs
pub use Rattle.guest_programs.specs.Ends
pub use Rattle.guest_programs.specs.Histories
pub mod Choices
pub mod Shares
pub mod Inside

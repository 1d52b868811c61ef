-- Private: what no clause of a public call names.
pub use Rattle.board_machine.specs.Stands
pub mod Opened
pub mod Packing

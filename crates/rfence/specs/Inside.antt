-- Private: what no clause of a public call names.
pub mod ByCaller
pub mod HartCaches
pub mod Marks

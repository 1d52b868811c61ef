-- Private: what no clause of a public call names.
pub mod Done
pub mod Fitting
pub mod Jobs

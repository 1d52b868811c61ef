-- Private: what no clause of a public call names.
pub mod Sights
pub mod Fits

pub mod Places
pub mod Fitting
pub mod Firsts
pub mod Saying
pub mod Unheld

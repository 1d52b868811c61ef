pub mod Firsts
pub mod Bare
pub mod Telling

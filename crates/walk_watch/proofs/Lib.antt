pub mod Effected
pub mod Showing
pub mod Looking
pub mod Seeing
pub mod Beginning
pub mod Fitting
pub mod Deciding

pub mod Check
pub mod Outcomes
pub mod PrintedScripts
pub mod Replay
pub mod Running
pub mod Sources
pub mod Devices
pub mod Inside

pub mod Interruptible

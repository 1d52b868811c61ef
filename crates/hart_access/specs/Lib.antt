pub mod AccessKinds
pub mod Ways
pub mod Accesses
pub mod Translations

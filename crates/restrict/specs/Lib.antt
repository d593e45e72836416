pub mod Restriction
pub mod Flags

pub mod Computed
pub mod Codes
pub mod Sealing
pub mod Numbers
pub mod Lookups

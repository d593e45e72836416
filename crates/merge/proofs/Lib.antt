pub mod Single
pub mod Spreading
pub mod Levels
pub mod Merging
pub mod Held
pub mod Queue
pub mod Flags

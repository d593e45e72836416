-- The theory behind a step.
pub mod Offsets
pub mod Moves
pub mod Ends
pub mod Right
pub mod Checks
pub mod Onward
pub mod Outset
pub mod Stepping
pub mod Filling

-- Paths that move on, and what a step's answer says.
pub mod Moves
pub mod Steps
pub mod Filling

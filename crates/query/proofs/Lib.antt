-- The theory behind the questions.
pub mod BitLists
pub mod Descent
pub mod Levels
pub mod Readings
pub mod Paths
pub mod Select
pub mod Index
pub mod Ascent
pub mod Writing
pub mod Calls

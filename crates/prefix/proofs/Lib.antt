-- The theory of cuts.
pub mod Cuts
pub mod Answers

-- What the questions find on the way, and what their answers say.
pub mod Descent
pub mod Select
pub mod Answers

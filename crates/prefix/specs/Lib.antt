-- What the question finds on the way, and what its answer says.
pub mod Cuts
pub mod Answers

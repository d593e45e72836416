pub mod Weights
pub mod History
pub mod Agreement
pub mod Examples
-- what an answer in code says
pub mod Answers
-- (for the contracts of inner functions: lists read in step with flags)
pub mod Lists

-- Theory of the calls with weights.
pub mod Sums
pub mod Lists
pub mod Accounts
pub mod Histories
pub mod Writes
pub mod Posts
-- (of the code: ranges, flags, packing and joins)
pub mod Ranges
pub mod Members
pub mod Flags
pub mod Held
pub mod Packs
pub mod Joins
-- what is promised
pub mod Answers
pub mod Agreement
pub mod Examples

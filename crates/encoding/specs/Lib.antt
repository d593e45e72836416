-- What is known of an opened encoding, what rank is counted from, and what the check finds.
pub mod Opened
pub mod Fields
pub mod Counting
pub mod Agree
pub mod Answers

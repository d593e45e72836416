-- From the calls' answers to their codes.
pub mod NoZero
pub mod Codes
pub mod Opening
pub mod Steps

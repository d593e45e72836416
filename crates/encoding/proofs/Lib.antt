-- Laws of opened encodings.
pub mod Opened
pub mod Index
pub mod SubBlock
pub mod Fields
pub mod Pass
pub mod Levels
pub mod Last
pub mod Agree
pub mod Answers

-- Laws of bits and numbers in bytes, for the code.
pub mod Table
pub mod Value
pub mod Counts
pub mod Records
pub mod Part
pub mod Packed
pub mod Unused
pub mod Words

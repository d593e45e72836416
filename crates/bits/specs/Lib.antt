-- What the tables hold, and bytes as words.
pub mod Tables
pub mod Words

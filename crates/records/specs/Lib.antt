pub mod Records
pub mod Numbers
pub mod Tables
pub mod Kinds

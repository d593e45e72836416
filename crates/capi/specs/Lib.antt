-- What each call answers, as C has it.
pub mod Coded
pub mod Steps

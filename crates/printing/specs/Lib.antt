-- The text that is printed, and pages of it.
pub mod Text
pub mod Standing
pub mod Pages
pub mod Examples

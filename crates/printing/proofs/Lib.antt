-- Text put into a buffer, its length, pages of it, and examples.
pub mod Putting
pub mod Digits
pub mod Lines
pub mod Paging
pub mod Examples

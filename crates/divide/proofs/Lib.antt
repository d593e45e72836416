pub mod Apart
pub mod Dividing

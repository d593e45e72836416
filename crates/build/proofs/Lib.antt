pub mod Front
pub mod Shape
pub mod Fields
pub mod Sealing
pub mod Standing
mod Numbers

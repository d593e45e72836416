pub mod Rising
pub mod Marking
pub mod Whole
pub mod Batch
pub mod Packing

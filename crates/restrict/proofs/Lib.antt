pub mod Marking
pub mod Masking
pub mod Singles
pub mod Compacting
pub mod Restricting
pub mod Subsets

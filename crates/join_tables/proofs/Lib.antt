pub mod Filling
pub mod SpreadTable
pub mod PartTable
pub mod RunTable
pub mod EdgedTable

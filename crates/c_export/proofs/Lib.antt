pub mod Crossed
pub mod Grouped

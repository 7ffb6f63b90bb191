pub mod Crossed
pub mod Determined
pub mod Refused

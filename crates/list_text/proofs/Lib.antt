pub mod Entries
pub mod Measures
pub mod Texts

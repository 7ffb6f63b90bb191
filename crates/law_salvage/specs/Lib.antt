pub mod Salvage
pub mod Determined

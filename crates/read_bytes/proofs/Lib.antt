pub mod Headed
pub mod Turned

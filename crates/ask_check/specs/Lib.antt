pub mod Apart
pub mod Both
pub mod Told

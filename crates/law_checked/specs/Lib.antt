pub mod Alike
pub mod Others
pub mod Files
pub mod Refused
pub mod FileEdit

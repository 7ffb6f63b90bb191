pub mod Read
pub mod Seen

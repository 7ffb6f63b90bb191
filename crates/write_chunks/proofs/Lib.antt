pub mod Tails
pub mod Stored
pub mod Starts
pub mod Putting
pub mod Written

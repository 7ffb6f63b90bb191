pub mod Words
pub mod Calls
pub mod Meeting
pub mod Records

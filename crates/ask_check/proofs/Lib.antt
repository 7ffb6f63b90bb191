pub mod Comparing
pub mod Finding
pub mod Verdicts
pub mod Answers

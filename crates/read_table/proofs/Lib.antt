pub mod RecordLaws
pub mod Plans
pub mod Seconds

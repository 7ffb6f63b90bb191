pub mod Trimming
pub mod VoiceLaws

pub mod Editing
pub mod FileEditing

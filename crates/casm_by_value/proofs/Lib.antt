pub mod Lending
pub mod Cells

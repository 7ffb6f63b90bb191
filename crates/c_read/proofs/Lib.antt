pub mod Laid
pub mod RowsRead

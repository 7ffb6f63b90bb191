pub mod Octaves
pub mod Sets

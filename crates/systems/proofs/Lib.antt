pub mod Bytes
pub mod Cells
pub mod Questions
pub mod Sets

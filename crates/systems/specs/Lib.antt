pub mod Cells
pub mod Containment
pub mod Label
pub mod Meaning
pub mod Sets

pub mod Comparing
pub mod Masks
pub mod Rows
pub mod Silence
pub mod Tables
pub mod Viewing

pub mod Bounds
pub mod Layers
pub mod Refusal
pub mod Simulation
pub mod Tabled
pub mod Weak

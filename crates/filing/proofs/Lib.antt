pub mod Asking
pub mod Says
pub mod Steps
pub mod Walk

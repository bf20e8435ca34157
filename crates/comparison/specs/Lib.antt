pub mod Calls
pub mod Grid
pub mod History
pub mod Refusals
pub mod Search
pub mod Settling
pub mod Sheet

pub mod Formula
pub mod Judging
pub mod NodeSets
pub mod Refusal
pub mod Sheet

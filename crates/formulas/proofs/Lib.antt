pub mod Judgements
pub mod NodeSets
pub mod Satisfaction
pub mod Sheets

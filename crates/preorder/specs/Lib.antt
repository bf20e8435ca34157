pub mod Prebisimulation
pub mod Reason
pub mod Strikes
pub mod Unfolding

pub mod Draws
pub mod Loads
pub mod NoSide
pub mod Machines
pub mod Setups
pub mod SettingUp
pub mod Summaries
pub mod Counted

pub mod Acts
pub mod Reach
pub mod Shares
pub mod Report

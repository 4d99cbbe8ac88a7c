pub mod Checks
pub mod Flawless
pub mod Sharers
pub mod Unprovable

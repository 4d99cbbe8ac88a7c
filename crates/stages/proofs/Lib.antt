pub mod Judging
pub mod Naming
pub mod Paired
pub mod Configured
pub mod Parts
pub mod Preparing
mod PreparingPair
pub mod Spanned
pub mod Asking

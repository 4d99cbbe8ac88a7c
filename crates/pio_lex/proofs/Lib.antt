pub mod Runs
pub mod Tables
pub mod Gaps
pub mod Numbers
pub mod Sizes
pub mod Progress
pub mod Readings
pub mod Answers
pub mod Spelled
pub mod Longest
pub mod Function
mod LongestRows

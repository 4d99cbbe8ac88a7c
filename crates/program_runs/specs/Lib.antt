pub mod Steady
pub mod Accepted
pub mod Words
pub mod Feeding
pub mod Steps
pub mod Clocks
pub mod Levels
pub mod Runs

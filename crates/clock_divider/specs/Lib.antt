pub mod Timing
pub mod Ticks
pub mod Left

pub mod Rows
pub mod Taking
pub mod Told
pub mod Steady
pub mod Pacing
pub mod Clocks
pub mod Ticks
pub mod Fed
pub mod ByTicks
pub mod Words
mod RunRows

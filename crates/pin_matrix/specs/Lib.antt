pub mod Setups
pub mod Placing
pub mod Spans
pub mod Pins
pub mod Pads
pub mod Assumptions
pub mod Followed

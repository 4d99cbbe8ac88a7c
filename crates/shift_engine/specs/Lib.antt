pub mod Shift
pub mod Reverse

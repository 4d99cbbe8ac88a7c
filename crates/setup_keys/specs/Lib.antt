pub mod Block
pub mod Rule
pub mod InRange
pub mod Clipped

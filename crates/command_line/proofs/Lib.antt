pub mod Values
pub mod Causes
pub mod Usual
pub mod Made
pub mod Spelled
pub mod Rows
pub mod Turns
pub mod Levels
pub mod Given
mod SpacedRows

pub mod Levels
pub mod Framing
pub mod Reading
pub mod Listening
pub mod Texts
pub mod Growing
pub mod Pieces
mod WorkedRows

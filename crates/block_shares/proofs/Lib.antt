pub mod Pieces
pub mod Puts
pub mod Feeling
pub mod WorkedRows

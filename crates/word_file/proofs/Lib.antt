pub mod Lines
pub mod LineByLine

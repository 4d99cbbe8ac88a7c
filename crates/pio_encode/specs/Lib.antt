pub mod Ranges
pub mod Word
pub mod Relocation
pub mod Text
pub mod Spelling

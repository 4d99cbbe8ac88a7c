pub mod Queue
pub mod Fifos
pub mod Runs

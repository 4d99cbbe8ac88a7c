pub mod Marks
pub mod Pairs
pub mod Holding
pub mod Asked
pub mod Runs
pub mod Proved

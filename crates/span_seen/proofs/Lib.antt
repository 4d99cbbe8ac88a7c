mod Delays
pub mod Staying
pub mod Telling
mod Missing
mod Ending
pub mod Runs
mod Ended
pub mod Distances
mod EdgeRows
mod EndRows

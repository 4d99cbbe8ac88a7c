pub mod WorkedSetups
pub mod Plain
pub mod WorkedRows
pub mod Breaking
pub mod Counting
pub mod Levels
pub mod Premises
pub mod Asking
pub mod Steps
pub mod Walk
pub mod Paired
pub mod Periods
pub mod InTicks
pub mod Pacing
pub mod InClocks
pub mod Sound
pub mod Held
mod AssumedRuns
mod AssumedSteps
mod EventRows
mod HoldsRows
mod PairRows

pub use Rattle.program_runs.specs.Accepted
pub mod Transmitter
pub mod OneSetup
pub mod Phases
pub mod Sending
pub mod Feeding

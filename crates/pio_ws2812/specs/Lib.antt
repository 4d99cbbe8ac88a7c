pub mod Pulses
pub mod Transmitter
pub mod Sending
pub mod Feeding

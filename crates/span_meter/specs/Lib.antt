pub mod Measured
pub mod Kept
pub mod Meters
pub mod SeenText
pub mod Spoken
pub mod Events
pub mod Assumed
pub mod SpokenMeters

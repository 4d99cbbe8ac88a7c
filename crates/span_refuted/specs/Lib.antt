pub mod OneWay
pub mod Visits
pub mod Broken

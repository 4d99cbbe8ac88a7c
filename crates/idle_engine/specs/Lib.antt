pub mod Stops
pub mod Kinds
pub mod One
pub mod OneInside
pub mod Twin
pub mod Worked
pub mod OneConduct

pub mod Within
pub mod Ends

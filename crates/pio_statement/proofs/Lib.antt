pub mod Outside
pub mod Known
pub mod Whole

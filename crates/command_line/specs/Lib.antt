pub mod Tool
pub mod Words
pub mod Laws
pub mod Given
pub mod Making
pub mod Asking

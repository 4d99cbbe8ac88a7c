pub mod Edge
pub mod Puts
pub mod Count
pub mod Stock
pub mod Bucket
pub mod Held
pub mod Fetched

pub mod Rows
pub mod UnderWay
pub mod Following

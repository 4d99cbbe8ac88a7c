pub mod Configured
pub mod Named
pub mod Spans
pub mod Pairs
pub mod Judged
pub mod Roles
pub mod Fetching
pub mod Stages

pub mod Sharing
pub mod Tables
pub mod Verdicts
pub mod Flaws

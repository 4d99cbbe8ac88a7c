pub mod Facts
pub mod Alike
pub mod Making
pub mod Exact

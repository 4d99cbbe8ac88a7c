pub mod Lookup
pub mod PutLaws

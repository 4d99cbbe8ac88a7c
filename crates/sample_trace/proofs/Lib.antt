pub mod BitLaws
pub mod EdgeLaws
pub mod ListLaws

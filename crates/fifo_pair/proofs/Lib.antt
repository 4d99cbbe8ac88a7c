mod Words
pub mod FifoLaws
mod HappenRows

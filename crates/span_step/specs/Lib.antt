pub mod Contexts
pub mod Outcomes
pub mod Courses
pub mod Narrowing
pub mod Steps
pub mod Laws

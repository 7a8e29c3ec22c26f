pub mod Growing
pub mod Steps
pub mod Lawfulness

pub mod Semantics
pub mod StorableFact
pub mod Refusals
pub mod Numbers
pub mod Makers
pub mod Questions
pub mod History

-- what rows mean, and what they answer
pub mod Rows
pub mod Answered
pub mod Counts
pub mod Tables
pub mod Fitting
pub mod Held
-- how a row with an equal value is found
pub mod Classes
pub mod Hashes
pub mod Chains

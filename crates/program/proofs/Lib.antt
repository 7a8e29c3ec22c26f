pub mod Equality
pub mod Shortened
pub mod Filling
pub mod Stepping
pub mod Passing
pub mod CheckLaw
pub mod Printing

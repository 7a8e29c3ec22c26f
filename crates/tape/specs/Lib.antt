pub mod Headers
pub mod Values
pub mod Held
pub mod Opening
pub mod Making
pub mod Fitting
pub mod Tapes
pub mod Law

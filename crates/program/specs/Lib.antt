pub mod Padding
pub mod Parts
pub mod Actions
pub mod Printed
pub mod Held
pub mod Marked
pub mod Checked
pub mod TakenUp

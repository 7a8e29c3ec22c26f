pub mod Narrations

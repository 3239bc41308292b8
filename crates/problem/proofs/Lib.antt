pub mod Searching
pub mod Places
pub mod Rays
pub mod Exchange
pub mod Differences
pub mod Bounds
pub mod Objectives
pub mod Saddle

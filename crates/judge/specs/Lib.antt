pub mod Judging
pub mod Sizes
pub mod Neighbours
pub mod Adding
pub mod Projecting

pub mod Distances
pub mod Slices
pub mod Worked

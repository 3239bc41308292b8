pub mod Integers
pub mod Words
pub mod Sums
pub mod Lists

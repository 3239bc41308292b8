pub mod Meanings
pub mod Driven
pub mod Laws

pub mod Telling
pub mod Laws

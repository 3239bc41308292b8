pub mod Adding
pub mod Accepting
pub mod Meaning
pub mod Rays
pub mod Beside
pub mod Pulls
pub mod Products
pub mod Chains

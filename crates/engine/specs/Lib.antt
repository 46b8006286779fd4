pub mod Steps
pub mod States
pub mod Laws
pub mod Reaching

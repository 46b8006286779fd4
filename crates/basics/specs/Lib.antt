pub mod Settled
pub mod Marks
pub mod Plain

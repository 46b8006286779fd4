pub mod Chained
pub mod Fronts

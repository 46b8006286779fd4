pub mod Shy
pub mod Hidden

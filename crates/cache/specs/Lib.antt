pub mod Tables
pub mod Caches
pub mod Entries
pub mod Slots
pub mod Placing

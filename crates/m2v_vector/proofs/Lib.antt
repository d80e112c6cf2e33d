pub mod Ranges
pub mod Wrapping
pub mod Spellings

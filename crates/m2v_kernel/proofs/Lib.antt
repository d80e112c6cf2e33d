pub mod Sizes
pub mod Steps
pub mod Windows
pub mod Means
pub mod Rows

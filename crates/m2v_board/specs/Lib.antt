pub mod Passes
pub mod Posts
pub mod Rule
pub mod Shows
pub mod Slots
pub mod Steps

pub mod Answers
pub mod Flat
pub mod Recon
pub mod Steps
pub mod Told
pub mod Tree
pub mod Numbered

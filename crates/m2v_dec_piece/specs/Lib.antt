pub mod Cutting
pub mod Following
pub mod Putting
pub mod Reads
pub mod Slices
pub mod Sound
pub mod Stepping
pub mod Texts

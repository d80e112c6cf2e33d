pub mod Conditions
pub mod Reads
pub mod Frames
pub mod Due

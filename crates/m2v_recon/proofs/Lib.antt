pub mod EightLanes
pub mod Luma
pub mod Samples

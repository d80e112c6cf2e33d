pub mod Block
pub mod Forward
pub mod ForwardLanes
pub mod Inverse
pub mod Ranges
pub mod RowSums
pub mod Sums
pub mod Terms

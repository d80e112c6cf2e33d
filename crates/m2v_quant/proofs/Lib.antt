pub mod Tables
pub mod Reconstruction
pub mod Scanned
mod Zeros
mod Bits
mod Lanes
pub mod Placed
pub mod Kept

pub mod Benches
pub mod Each
pub mod Idle
pub mod Pieces
pub mod Works

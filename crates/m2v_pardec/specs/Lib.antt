pub mod Behind
pub mod Ahead
pub mod Taken
pub mod Rows
pub mod Staff
pub mod Put
pub mod Chain

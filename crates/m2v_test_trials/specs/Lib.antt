pub mod Chain
pub mod Pair

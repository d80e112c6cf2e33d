pub mod Bits
pub mod Syntax
pub mod Leaves
pub mod Elements
pub mod Laws
pub mod Outputs

pub mod Ends
pub mod File
pub mod Memory
pub mod Port

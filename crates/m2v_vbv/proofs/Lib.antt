pub mod Sums
pub mod Waits
pub mod Fine
pub mod Steps
pub mod Constant
pub mod Varying

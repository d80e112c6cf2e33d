pub mod Cuts
pub mod Further
pub mod Judged
pub mod Ends
pub mod Setups
pub mod Passed

mod Bytes
mod Numbers
pub mod Runs

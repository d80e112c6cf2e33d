pub mod Judged
pub mod Facts

pub mod Activity
pub mod Worked

pub mod Places
pub mod RawVideo
pub mod Rows
pub mod Squares
pub mod Windows

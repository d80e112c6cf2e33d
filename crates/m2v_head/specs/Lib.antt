pub mod Texts
pub mod Fits
pub mod Elements
pub mod Headers

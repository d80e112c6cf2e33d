pub mod Sums
pub mod Anchors
pub mod Lists
pub mod Places

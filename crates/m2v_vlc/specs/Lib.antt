pub mod Codes
pub mod Values
pub mod Tables
pub mod Coefficients
pub mod Lookups
pub mod Places
pub mod Shorts
pub mod Laws

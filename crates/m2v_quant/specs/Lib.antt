pub mod Scans
pub mod Prefix
pub mod Kinds
pub mod Coefficients
pub mod Matrices
pub mod Quantiser
pub mod Marks
pub mod Sparse

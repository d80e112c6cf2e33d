pub mod Vectors
pub mod Predictors

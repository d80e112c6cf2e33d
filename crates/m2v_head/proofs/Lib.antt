pub mod Matrices
pub mod ElementLaws
pub mod MatrixLaws
pub mod HeaderLaws
pub mod Spellings
pub mod Lengths

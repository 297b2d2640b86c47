pub mod Matrices
pub mod Trivial
pub mod MatrixLaws

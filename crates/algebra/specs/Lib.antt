pub mod Semiring
pub mod Tables
pub mod Codes
pub mod Bits
pub mod Theorems
pub mod Below

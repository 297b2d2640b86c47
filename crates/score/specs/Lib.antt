pub mod Score
pub mod Scores

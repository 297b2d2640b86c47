pub mod Verdict
pub mod Verdicts

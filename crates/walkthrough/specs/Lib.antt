pub mod Weight

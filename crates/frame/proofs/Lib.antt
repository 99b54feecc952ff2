-- Laws on states and frames.
pub mod Laws
pub mod Finite
pub mod TwoAnswers

-- Laws that other crates cite.
pub mod Counted
pub mod TwoAnswers

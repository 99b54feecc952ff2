-- Laws that other crates cite.
pub mod Texts
pub mod Lines
pub mod TwoAnswers

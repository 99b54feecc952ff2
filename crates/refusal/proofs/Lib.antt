-- Laws that other crates cite.
pub mod Exactly
pub mod TwoAnswers
pub mod Widened
pub mod Told

-- Laws that the functions' proofs and other crates cite.
pub mod Lines
pub mod TwoAnswers

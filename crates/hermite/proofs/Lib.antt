-- Laws that the functions' proofs and other crates cite.
pub mod Table
pub mod Same
pub mod Own
pub mod TwoAnswers

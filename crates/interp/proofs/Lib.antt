-- Laws that the functions' proofs and other crates cite.
pub mod Search
pub mod Greatest
pub mod Blend
pub mod Same
pub mod TwoAnswers
pub mod Window
pub mod Own
pub mod Cases

-- A law on state matrices.
pub mod Laws
pub mod TwoAnswers

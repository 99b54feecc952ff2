-- Laws that several functions' proofs cite.
pub mod Nan
pub mod Finite
pub mod TwoAnswers
pub mod Whole
pub mod Few
pub mod Reaching
pub mod Floor
pub mod Patterns
pub mod Order
pub mod Fill
pub mod Agree
pub mod Tests

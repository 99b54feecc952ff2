-- Laws that other crates cite, and those that the functions' proofs share.
pub mod Alike
pub mod Moved
pub mod Order
pub mod Counts
pub mod Tallying
pub mod TwoAnswers
pub mod Ways
pub mod Exactly
pub mod Same
pub mod Merge
pub mod Permuted

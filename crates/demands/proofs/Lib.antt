-- The proofs of the demands.
pub mod ByValue
pub mod Lent
pub mod Statements
pub mod Indexed
pub mod Outputs
pub mod Frames
pub mod Words

-- What is proved beyond the contracts.
pub mod Demands
pub mod Statements
pub mod Indexed
pub mod Outputs
pub mod Frames
pub mod Words

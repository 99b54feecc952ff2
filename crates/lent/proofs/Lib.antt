-- Laws that belong to no one function.
pub mod Scanning
pub mod TwoAnswers

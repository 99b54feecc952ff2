-- Laws that belong to no one function.
pub mod Owning
pub mod TwoAnswers

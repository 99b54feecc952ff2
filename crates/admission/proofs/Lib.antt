-- Laws that belong to no one function.
pub mod TwoAnswers
pub mod Ways
pub mod Exactly
pub mod MatrixFile
pub mod Rooms

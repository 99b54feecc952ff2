-- Laws that belong to no one function.
pub mod Steps
pub mod Visited
pub mod TwoAnswers
pub mod Walks
pub mod Walked
pub mod Ends
pub mod Failing
pub mod Own
pub mod Cases
pub mod Before
pub mod Entered
pub mod Framed

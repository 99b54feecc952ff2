-- Laws that callers cite.
pub mod TwoAnswers
pub mod Visits
pub mod Iterating
pub mod Right
pub mod Choices
pub mod Filling
pub mod Parts
pub mod Marking
pub mod Cases

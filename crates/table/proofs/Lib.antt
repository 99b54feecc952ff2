-- Laws that callers cite.
pub mod Cases
pub mod Choices
pub mod Early
pub mod Last
pub mod Limits
pub mod Marks
pub mod Names
pub mod TwoAnswers
pub mod Visits

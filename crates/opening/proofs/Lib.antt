-- Laws of the opening.
pub mod Exact
pub mod Planned
pub mod Planning
pub mod Told
pub mod TwoAnswers

-- Laws that belong to no one function.
pub mod FrameTexts
pub mod Replies
pub mod Turns
pub mod TwoAnswers

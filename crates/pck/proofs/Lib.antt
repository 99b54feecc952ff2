-- Laws that belong to no one function, and what is proved beyond the contracts.
pub mod Alone
pub mod Chosen
pub mod Exactly
pub mod ExactlyAlone
pub mod Finding
pub mod OwnBytes
pub mod TwoAnswers
pub mod Ways
pub mod Told
pub mod Before
pub mod Words

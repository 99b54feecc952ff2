-- The definitions that the contracts of `spk` cite.
pub mod Alone
pub mod Answers
pub mod Answering
pub mod Asking
pub mod Choosing
pub mod Steps
pub mod Questions
pub mod Runs
pub mod Touched
pub mod Turning
pub mod When
pub mod Told
pub mod Before
pub mod Words

-- What it means that a contract leaves no choice.
pub mod Promised

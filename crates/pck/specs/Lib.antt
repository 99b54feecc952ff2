-- The definitions that the contracts of `pck` cite, and what is proved beyond them.
pub mod Alone
pub mod Answering
pub mod Steps
pub mod Orienting
pub mod When
pub mod Told
pub mod Before

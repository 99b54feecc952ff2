-- The definitions that the contracts of `indexed` cite.
pub mod Stepping
pub mod Answering
pub mod Asking
pub mod Orienting
pub mod Opening

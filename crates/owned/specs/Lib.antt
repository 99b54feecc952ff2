-- The definitions that the contracts of `owned` cite.
pub mod Owned

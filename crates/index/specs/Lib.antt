-- The definitions that the contracts of `index` cite.
pub mod Buckets
pub mod Visiting
pub mod Right
pub mod Parts
pub mod Marking

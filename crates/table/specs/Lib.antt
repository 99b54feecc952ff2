-- The definitions that the contracts of `table` cite.
pub mod Segments
pub mod Places
pub mod Choosing
pub mod Marks
pub mod Naming
pub mod Steps
pub mod Told
pub mod Visits

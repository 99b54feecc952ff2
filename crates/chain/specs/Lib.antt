-- The definitions that the contracts of `chain` cite.
pub mod Step
pub mod Visited
pub mod Walk
pub mod Walked
pub mod When
pub mod Touched
pub mod Entered
pub mod Steps
pub mod Before

-- The worked numbers of the rules.
pub mod Worked

-- What the contracts of `streams` cite.
pub mod Input
pub mod Told

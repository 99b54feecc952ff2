-- What the contracts of `opening` cite.
pub mod Opening
pub mod Lent
pub mod Steps
pub mod Told

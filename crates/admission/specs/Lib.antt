-- What the contracts of `admission` cite.
pub mod Order
pub mod When
pub mod Told

-- What the contracts of `hermite` cite: the table and the Newton form, and an axis and a state over a kernel's bytes.
pub mod Hermite
pub mod Axes
pub mod Steps

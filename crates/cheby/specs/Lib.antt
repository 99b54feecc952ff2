-- What the contracts of `cheby` cite: series, records and their choice; and what the small functions of the code do.
pub mod Cheby
pub mod Steps

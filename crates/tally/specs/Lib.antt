-- What the contracts of `tally` cite: the statement of a usage file and its refusals; what is said of it beyond the contracts, two statements merged
-- and when each refusal is given; what the small functions of the code do.
pub mod Usage
pub mod Faults
pub mod Statement
pub mod Merging
pub mod When
pub mod Steps

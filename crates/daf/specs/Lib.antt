-- What the contracts of `daf` cite, from RULES, "Kernels" and "Opening", and NAIF's account of a DAF.
pub mod FileRecord
pub mod Walk
pub mod Summaries
pub mod Opening
pub mod Names
pub mod Addresses
pub mod Steps
pub mod Told

-- What the contracts of `sxform` cite, and worked examples.
pub mod Sxform
pub mod Examples
pub mod Steps

-- What the contracts of `bits` cite: numbers in bytes, the record index, sameness of two doubles, and worked examples.
pub mod Bytes
pub mod Record
pub mod Same
pub mod Examples
pub mod F64

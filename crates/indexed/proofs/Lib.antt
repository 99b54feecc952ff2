-- Laws that callers cite.
pub mod Stepping
pub mod Scanning
pub mod Asking
pub mod Orienting
pub mod Opening
pub mod Refusals
pub mod TwoAnswers
pub mod Filled

-- What the contracts of `segment` cite: the kinds, the tests of refusal 9, and the evaluation of one segment.
pub mod Kinds
pub mod Malformed
pub mod Evaluating
pub mod Examples
pub mod Told
pub mod Steps
pub mod Before

-- Laws that the proofs cite: of the text; how many segments there are at most; of calls; of refusals, when each is given; that a contract leaves no choice.
pub mod Texts
pub mod Few
pub mod Planned
pub mod Exactly
pub mod TwoAnswers
pub mod Whole

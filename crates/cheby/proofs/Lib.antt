-- Laws that several functions' proofs cite. For other crates: `Record`, of a record's number and of RADIUS; `Own`, that a record's doubles alone decide what
-- it gives; and worked cases.
pub mod Numbers
pub mod Laws
pub mod Record
pub mod Own
pub mod Cases
pub mod TwoAnswers

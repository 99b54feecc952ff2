-- Laws of the definitions, one for each way through the code that meets them.
pub mod Spelling
pub mod TwoAnswers
pub mod Walking
pub mod Pigeons
pub mod SecondTime
pub mod Counting
pub mod Heading
pub mod Naming
pub mod Cursors
pub mod Begun

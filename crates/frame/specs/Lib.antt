-- What the contracts of `frame` cite: states, the matrices that turn them, the frames of their numbers, and worked examples.
pub mod State
pub mod Finite
pub mod Frame
pub mod Framed
pub mod Given
pub mod Examples

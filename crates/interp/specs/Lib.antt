-- What the contracts of `interp` cite: the search and the window, Lagrange, and types 9 and 13 over a kernel.
pub mod Window
pub mod Lagrange
pub mod Discrete
pub mod Steps

-- The definitions that the contracts of `viewer` cite, and the statements of its theorems.
pub mod Faces
pub mod Modes
pub mod Promise
pub mod Theorems

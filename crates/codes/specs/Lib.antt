-- The definitions that the contracts of `codes` cite, and the statements of its theorems.
pub mod Stereo
pub mod Tracktypes
pub mod Promise
pub mod Theorems

-- The definitions that the contracts of `info` cite, and the statements of its theorems.
pub mod Records
pub mod Told
pub mod Promise
pub mod Theorems
pub mod Cases

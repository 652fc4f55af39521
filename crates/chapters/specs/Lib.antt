-- The definitions that the contracts of `chapters` cite, and the statements of its theorems.
pub mod Records
pub mod First
pub mod Told
pub mod Promise
pub mod Theorems
pub mod Cases

-- The definitions that the contracts of `listing` cite, and the statements of its theorems.
pub mod Listing
pub mod Room
pub mod Promise
pub mod Theorems
pub mod Cases

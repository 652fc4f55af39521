-- The definitions that the contracts of `owner` cite, and the statements of its theorems.
pub mod Owner
pub mod Promise
pub mod Contract
pub mod Way
pub mod Theorems
pub mod Cases
pub mod Live

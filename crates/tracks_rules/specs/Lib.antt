-- The definitions that the contracts of `tracks` cite, and the statements of its theorems.
pub mod Typed
pub mod Settings
pub mod Records
pub mod Told
pub mod Promise
pub mod Theorems
pub mod Cases

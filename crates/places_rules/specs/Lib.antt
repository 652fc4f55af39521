-- The definitions that the contracts of `places` cite, and the statements of its theorems.
pub mod Payload
pub mod Whose
pub mod Promise
pub mod Theorems
pub mod Live

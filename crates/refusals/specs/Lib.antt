-- The definitions that the contracts of `refusals` cite, and the statements of its theorems.
pub mod Causes
pub mod Refusals
pub mod Reply
pub mod Promise
pub mod Theorems

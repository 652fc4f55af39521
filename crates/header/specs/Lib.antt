-- The definitions that the contracts of `header` cite, and the statements of its theorems.
pub mod Vint
pub mod Header
pub mod Reads
pub mod Promise
pub mod Theorems

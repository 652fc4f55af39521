-- The definitions that the contracts of `seekhead` cite, and the statement of its theorem.
pub mod Seeks
pub mod Table
pub mod Contract
pub mod Theorems

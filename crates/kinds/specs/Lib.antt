-- The definitions that the contracts of the kind decision cite, and the statements of the theorems.
pub mod Elements
pub mod Kinds
pub mod Promise
pub mod Theorems

-- The definitions that the contracts of `segments` cite, and the statements of its theorems.
pub mod Segment
pub mod Contract
pub mod Theorems

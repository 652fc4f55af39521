-- The definitions that the contracts of `fields` cite, and the statements of its theorems.
pub mod Children
pub mod Values
pub mod Fields
pub mod Told
pub mod Contract
pub mod Theorems
pub mod Alone

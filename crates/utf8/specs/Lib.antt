-- The definitions that the contracts of `utf8` cite, and the statements of its theorems.
pub mod Utf8
pub mod Leads
pub mod Promise
pub mod Grammar
pub mod Theorems

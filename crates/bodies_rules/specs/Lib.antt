-- The definitions that the contracts of `bodies` cite, and the statements of its theorems.
pub mod Numbers
pub mod Bodies
pub mod Reads
pub mod Promise
pub mod Theorems

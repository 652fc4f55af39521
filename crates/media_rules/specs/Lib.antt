-- The definitions that the contracts of `media` cite, and the statements of its theorems.
pub mod Said
pub mod Video
pub mod Records
pub mod Told
pub mod Promise
pub mod Theorems
pub mod Cases

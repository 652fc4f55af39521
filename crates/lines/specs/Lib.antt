-- What the contracts of `lines` cite.
pub mod Bounds
pub mod Gathered

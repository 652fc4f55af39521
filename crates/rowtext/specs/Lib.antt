-- The definitions that the contracts of `rowtext` cite.
pub mod Cuts
pub mod Lines
pub mod Room

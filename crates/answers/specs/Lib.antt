-- What the contracts of `answers` cite.
pub mod Cells

-- What the contracts inside `ask` cite.
pub mod Bounds

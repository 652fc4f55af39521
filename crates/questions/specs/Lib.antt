-- What the contracts inside `questions` cite.
pub mod Bounds
